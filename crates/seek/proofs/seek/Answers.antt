-- `seek::seek` meets its contract. Where no near junction fits, the first that fits is far; where a ring is empty, there is none.
use Rattle.std.proofs.Common.{◌≡◌, rules}
use Rattle.near.specs.declared.Nearby.TheVariants.{Found, Farther, Nowhere}
use Rattle.seek.proofs.seek.Goals as goal

pub seek_far-requires : goal.seek_far-requires
seek_far-requires c =
    let near = c.seek_near-close in
    let e : near.result ≡ Farther c.in-Farther.k = c.in-Farther.is in
    record { ready = c.requires.ready; far_asks = record { asks = c.requires.seek_asks; missed = near.ensures.farther _ e } }

pub returns-in-Found : goal.returns-in-Found
returns-in-Found c =
    let near = c.seek_near-close in
    let e : near.result ≡ Found c.in-Found.m = c.in-Found.is in
    record { few = near.ensures.few _ e; swaps = near.ensures.found _ e }

pub returns-in-Nowhere : goal.returns-in-Nowhere
returns-in-Nowhere c =
    let near = c.seek_near-close in
    let e : near.result ≡ Nowhere = c.in-Nowhere.is in
    record { few = tt; swaps = near.ensures.nowhere e }
