-- Every state stands for a sound one, and a sound one for itself. So what is promised from sound states on is promised from any.
use mathlib.Core.Path.{◌≡◌, ap, subst, sym}
use mathlib.Core.List.{List}
use Prim.Native.Nat.{ℕ}
use Rattle.paper.specs.Yard.{Bay}
use Rattle.paper.specs.Text.{Text}
use Rattle.paper.proofs.Tests.{by_cases}
use Rattle.gridmap.specs.declared.Grid.{Grid}
use Rattle.carrier_lists.specs.Counting.{count_in}
use Rattle.carrier_lists.proofs.Counting.{count-few, count_same}
use Rattle.scenario.specs.declared.Reading.{Reading}
use Rattle.scenario.specs.Under.{Sound, taken_as, state_of, Stored, Came, Over, Feeds, Ends}

-- ## The state

abbrev counting : Reading → ℕ → Reading
counting s n = record {
  failed = s.failed;
  version = s.version;
  begun = s.begun;
  held = s.held;
  count = n;
  start = s.start;
  goal = s.goal;
  text = s.text;
  past = s.past;
  field = s.field;
}

pub with-count : (s : Reading) (n : ℕ) → n ≡ count_in s.version s.count → counting s n ≡ taken_as s
with-count s n e = ap (counting s) e

pub taken-sound : (s : Reading) → Sound (taken_as s)
taken-sound s = record { first = λ v. rw v; few = count-few s.version s.count }

pub taken-same : (s : Reading) → Sound s → taken_as s ≡ s
taken-same s o =
    let same : s.count ≡ count_in s.version s.count = by_cases s.version (λ v. rw (v, o.first v)) (λ v. rw v (sym (count_same s.count o.few))) in
    sym (with-count s s.count same)

-- ## From any state on

module _ (t : List ℕ) (G : Grid) (s : Reading) where
  -- and from a sound one
  pub feeds-sound : Sound s → (r : Reading) (bs : Text) {a b a' b' : List ℕ} → Feeds t G s bs r a b a' b'
      → (cs : List (Bay × Bay)) (x y : List ℕ) → Stored cs s x a y a' → Came t G (state_of s cs) bs r x b y b'
  feeds-sound o r bs {a} {b} {a'} {b'} w cs x y =
      subst (λ (z : Reading). Stored cs z x a y a' → Came t G (state_of z cs) bs r x b y b') (taken-same s o) (w.feeds cs x y)

  pub ends-sound : Sound s → (r : Reading) {a b a' b' : List ℕ} → Ends t G s r a b a' b'
      → (cs : List (Bay × Bay)) (x y : List ℕ) → Stored cs s x a y a' → Over t G (state_of s cs) r x b y b'
  ends-sound o r {a} {b} {a'} {b'} w cs x y =
      subst (λ (z : Reading). Stored cs z x a y a' → Over t G (state_of z cs) r x b y b') (taken-same s o) (w.ends cs x y)
