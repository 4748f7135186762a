mod Writing
mod Saying
mod Counting
