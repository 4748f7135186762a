-- What the numbers make: yes and no, and a reading of them, field by field.
use mathlib.Core.Path.{◌≡◌, ◌∙◌, ap}
use mathlib.Core.Bool.{Bool, not}
use Prim.Native.Nat.{ℕ}
use Rattle.carrier_lists.specs.Counting.{count_in}
use Rattle.scenario.specs.declared.Reading.{Reading}
use Rattle.link.specs.declared.UnderWay.{UnderWay}
use lib.Dec.{eqb}
use Rattle.paper.proofs.Tests.{by_cases}
use Rattle.link.specs.Link.{yes_of, reading_in}

pub not-none : (n : ℕ) → not (eqb n 0) ≡ yes_of n
not-none n = by_cases (eqb n 0) (λ e. rw e) (λ e. rw e)

pub reading-is : (k : UnderWay) {v f b h a w d p l g : Bool} {n : ℕ} → v ≡ yes_of k.version → f ≡ yes_of k.failed → b ≡ yes_of k.begun → h ≡ yes_of k.held → n ≡ count_in v k.count
    → a ≡ yes_of k.agrees → w ≡ yes_of k.well → d ≡ yes_of k.digits → p ≡ yes_of k.point → l ≡ yes_of k.plain → g ≡ yes_of k.figure
    → ◌≡◌ {A = Reading} (record {
      failed = f;
      version = v;
      begun = b;
      held = h;
      count = n;
      start = 0;
      goal = 0;
      text = record { place = k.place; agrees = a };
      past = record { index = k.index; well = w; sx = k.sx; sy = k.sy; gx = k.gx; gy = k.gy };
      field = record { place = k.size; number = k.number; digits = d; point = p; plain = l; figure = g };
    }) (reading_in k)
reading-is k ev ef eb eh en ea ew ed ep el eg =
    let em = en ∙ ap (λ (x : Bool). count_in x k.count) ev in
    λ i. record {
      failed = ef i;
      version = ev i;
      begun = eb i;
      held = eh i;
      count = em i;
      start = 0;
      goal = 0;
      text = record { place = k.place; agrees = ea i };
      past = record { index = k.index; well = ew i; sx = k.sx; sy = k.sy; gx = k.gx; gy = k.gy };
      field = record { place = k.size; number = k.number; digits = ed i; point = ep i; plain = el i; figure = eg i };
    }
