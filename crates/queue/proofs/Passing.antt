-- The bays of a ring are passed one after the other. The queue has room for whatever they lead to, since no bay stands in it twice.
-- Assumes nothing.
use mathlib.Core.Path.{◌≡◌, refl, sym, ◌∙◌}
use mathlib.Core.List.{List, ◌++◌}
use Prim.Native.Nat.{ℕ, ◌+◌, ◌≤◌, ◌<◌}
use native.Mathlib.Numerals.{add-one}
use native.Mathlib.Omega.{arith}
use lib.ListN.{length, get_or, take, length-append}
use lib.Seq.{take-take, take-append-le, get_or-take, length-take-le}
use Rattle.paper.proofs.Playing.{bay-in}
use Rattle.words.specs.Sets.{span}
use Rattle.queue.specs.Meeting.{new, Meets}
use Rattle.queue.specs.Queue.{Met, Passed}
use Rattle.queue.proofs.Places.{few-below}
use Rattle.queue.proofs.Queueing.{found, more-once, more-inside, met-more}

pub passed_first : {n : ℕ} {table held : List ℕ} {x : ℕ} {seen met before : List ℕ} {done count : ℕ} → count ≤ n → Met n table held x seen (take count met) before done
    → Passed n table held x met count seen met before done count
passed_first h m = record { queue = m; kept = refl; more = omega arith; most = h }

module _ {n : ℕ} {table held : List ℕ} {x : ℕ} {met₀ : List ℕ} {count : ℕ} {seen met before : List ℕ} {done c : ℕ} (p : Passed n table held x met₀ count seen met before done c)
    (most : n ≤ span) (room : n ≤ length met) (h : done < c) where
  size : length (take c met) ≡ c
  size = length-take-le c met (omega (arith, p.most))

  same : get_or (take c met) done 0 ≡ get_or met done 0
  same = get_or-take c met done 0 h

  there : done < length (take c met)
  there = omega (arith, size)

  pub passed-inside : get_or met done 0 < n
  passed-inside = rw same at (p.queue.inside _ (bay-in (take c met) done there))

  -- there is room for what is new
  pub passed-room : c + length (new table seen (get_or met done 0)) ≤ n
  passed-room =
      let k = few-below n (take c met ++ found p.queue there) (more-once p.queue there) (more-inside p.queue there most) in
      omega (arith, size, rw same at k, length-append (take c met) (new table seen (get_or met done 0)))

  pub passed-more : (seen' met' before' : List ℕ) (r : ℕ) → Meets (new table seen (get_or met done 0)) (get_or met done 0) c seen met before seen' met' before' r
      → Passed n table held x met₀ count seen' met' before' (done + 1) r
  passed-more seen' met' before' r w =
      let f : List ℕ = new table seen (get_or met done 0) in
      let q = w.queued in
      record {
        queue = rw (add-one, q.queue, ← same)
            (met-more p.queue there seen' before' most (λ b i. rw same (w.seeing b i)) (λ y i. rw same (q.parents y (rw same at i))) (λ y o. q.others y (rw same at o)));
        kept = sym (take-take count r met' (omega (arith, q.size, p.more))) ∙ rw q.queue (take-append-le count (take c met) f (omega (arith, size, p.more)))
            ∙ take-take count c met p.more ∙ p.kept;
        more = omega (arith, q.size, p.more);
        most = omega (arith, q.size, passed-room);
      }
