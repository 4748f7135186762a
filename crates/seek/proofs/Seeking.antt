-- A search from the carrier's bay: where it stands, and the path that is read back to a bay of its ring. Where a ring is near, none of its bays is tried
-- again.
-- Assumes nothing.
use mathlib.Core.Path.{◌≡◌, sym, ◌∙◌, ap}
use mathlib.Core.Bool.{true, false}
use mathlib.Core.List.{List, [], ◌∷◌}
use mathlib.Core.Option.{some}
use Prim.Native.Nat.{ℕ, ◌≤◌, ◌<◌, ◌+◌}
use native.Mathlib.Decide.{dec_lt}
use native.Mathlib.Omega.{arith}
use lib.Dec.{eqb}
use lib.ListN.{length, get_or, take, replicate}
use lib.Seq.{length-take-le}
use Rattle.paper.specs.Basics.{◌or◌, elem, In}
use Rattle.paper.specs.Path.{rings, nearest_first, shortest_path, path_between}
use Rattle.paper.specs.Yard.{Bay, Carrier, Placement, bay_of}
use Rattle.paper.proofs.Tests.{not-both}
use Rattle.words.specs.Sets.{mem, words, span}
use Rattle.words.proofs.Sets.{zeros, mem-zeros}
use Rattle.rings.proofs.Searching.{in-yard}
use Rattle.queue.specs.Meeting.{back}
use Rattle.ways.proofs.Passing.{zeros-low}
use Rattle.rounds.specs.Rounds.{RingSays}
use Rattle.rounds.proofs.Rounds.{Rounds, rounds-first, rounds-dry, rounds-more, path-of}
use Rattle.acting.specs.Acting.{Tabled, Ready}
use Rattle.trial.proofs.Copying.{free_shown, path-found}
use Rattle.trial.specs.declared.Trial.{Trial}
use Rattle.near.specs.Seeking.{SeekAsks, NoneNear}
use Rattle.near.proofs.Seeking.{Sought, sought-start, reached-from, ring-low, near_of}
use Rattle.scouts.specs.Scouts.{Scouted, NoneYet, ForeseeAsks, scouts_room}
use Rattle.scouts.specs.declared.Scouts.{Scouts}
use Rattle.seek.specs.Far.{FirstFar}

-- ## Near rings

module _ {n : ℕ} {table : List ℕ} (t : Tabled n table) (r s : Carrier) (p : Placement) (most : n ≤ span) (hu : bay_of p r < n) where
  pub sought-far : (k d : ℕ) (ring : List ℕ) → ((y : ℕ) → y < span → mem ring y ≡ elem y (get_or (rings t.yard [] (bay_of p r)) d [])) → NoneNear t.yard r s p k
      → (v : ℕ) → Sought t.yard r s p d 0 → FirstFar (mem ring) k d v → Sought t.yard r s p d v
  sought-far k d ring same none v g f = elim (dec_lt d k) [
    | yes h ↦ record { rings-before = g.rings-before; below = λ b i l. none d b h i }
    | no h ↦ sought-start t r s p most hu d ring same v g (f.lowest (omega arith))
  ]

-- ## The search

-- nobody has set out, so nothing is said of anybody
pub scouted-first : (r s : Carrier) (table p : List ℕ) (n : ℕ) (scouts : Scouts) (room : List ℕ) → NoneYet scouts → Scouted r s table p n scouts room
scouted-first r s table p n scouts room y = record {
  stuck_size = y.stuck_size;
  scouting = λ t b. record {
    ours = λ h. absurd (omega (arith, y.ours));
    theirs = λ h. absurd (omega (arith, y.theirs));
    stuck = λ c h i. not-both i (y.none_stuck c);
  };
}

module _ {n : ℕ} {table : List ℕ} (t : Tabled n table) (most : n ≤ span) (x : Bay) (hx : x < n) where
  unheld : mem (zeros words) x ≡ false
  unheld = mem-zeros words x

  -- it begins at x alone, and no bay is held
  pub search-first : (seen ring met : List ℕ) → ((b : ℕ) → mem seen b ≡ eqb b x) → ((b : ℕ) → mem ring b ≡ eqb b x) → take 1 met ≡ x ∷ []
      → Rounds (free_shown t) x 0 seen ring met (replicate span 0) 0 1
  search-first seen ring met f g first =
      rounds-first (free_shown t) most x hx unheld seen ring met (replicate span 0) zeros-low (λ b h. f b ∙ (unfold ◌or◌ in rw (mem-zeros words b))) g first

  module _ (d : ℕ) {seen ring met before : List ℕ} {done count : ℕ} (g : Rounds (free_shown t) x d seen ring met before done count) where
    -- the bays of its path are the yard's, and it is the paper's
    pub path-to : (v : Bay) (path : List ℕ) → In v (get_or (rings t.yard [] x) d []) → In x (nearest_first t.yard [] v) → path ≡ back before d v []
        → (path ≡ shortest_path t.yard [] x v) × (1 ≤ length path) × ((k : ℕ) → k < length path → get_or path k 0 < n)
    unfolding path_between
    path-to v path i reached e =
        path-found t x v path hx (in-yard (free_shown t) x most hx d v i)
        (rw reached (ap some (e ∙ path-of (free_shown t) most x hx unheld d g v i)))

    module _ {seen' ring' met' before' : List ℕ} {m : ℕ} (p : RingSays n done count table seen met before seen' ring' met' before' m) (some_left : done < count) (room : n ≤ length met') where
      pub search-dry : m ≡ count → (k b : ℕ) → d < k → In b (get_or (rings t.yard [] x) k []) → ⊥
      search-dry = rounds-dry (free_shown t) most x hx unheld d g p some_left room

      pub search-more : count < m → Rounds (free_shown t) x (d + 1) seen' ring' met' before' count m
      search-more = rounds-more (free_shown t) most x hx unheld d g p some_left room

-- a bay of the ring that the search stands at may be tried
module _ {table p standing empty : List ℕ} (k : Ready table p standing empty) (x : Trial) (a : SeekAsks x.carrier.0 x.neighbour.0 table p standing) (d : ℕ)
    {seen ring met before : List ℕ} {done count : ℕ} (g : (t : Tabled (length standing) table) → Rounds (free_shown t) (bay_of p x.carrier.0) d seen ring met before done count)
    (low : x.junction.0 < span) (there : mem ring x.junction.0 ≡ true) where
  hu : bay_of p x.carrier.0 < length standing
  hu = k.placed.inside x.carrier.0 a.first

  in-ring : (t : Tabled (length standing) table) → In x.junction.0 (get_or (rings t.yard [] (bay_of p x.carrier.0)) d [])
  in-ring t = sym ((g t).ringing x.junction.0 low) ∙ there

  reached : (t : Tabled (length standing) table) → In (bay_of p x.carrier.0) (nearest_first t.yard [] x.junction.0)
  reached t = reached-from t x.carrier.0 x.neighbour.0 p k.most hu d x.junction.0 (in-ring t)

  pub junction_inside : x.junction.0 < length standing
  junction_inside = ring-low k.tabled x.carrier.0 x.neighbour.0 p k.most hu d x.junction.0 (in-ring k.tabled)

  read-path : (path : List ℕ) → path ≡ back before d x.junction.0 [] → (t : Tabled (length standing) table)
      → (path ≡ shortest_path t.yard [] (bay_of p x.carrier.0) x.junction.0) × (1 ≤ length path) × ((j : ℕ) → j < length path → get_or path j 0 < length standing)
  read-path path e t = path-to t k.most (bay_of p x.carrier.0) hu d (g t) x.junction.0 path (in-ring t) (reached t) e

  pub foresee-asks : (path : List ℕ) → length path ≡ span → d < span → take (d + 1) path ≡ back before d x.junction.0 [] → (scouts : Scouts) (room : List ℕ) → length room ≡ scouts_room
      → Scouted x.carrier.0 x.neighbour.0 table p (length standing) scouts room → ForeseeAsks (take (d + 1) path) x table p standing scouts room
  foresee-asks path size short e scouts room room_size sc =
      let long : length (take (d + 1) path) ≡ d + 1 = length-take-le (d + 1) path (omega arith) in
      record {
        on_path = record {
          asks = record { first = a.first; second = a.second; differ = a.differ; inside = junction_inside };
          bays_inside = (read-path (take (d + 1) path) e k.tabled).2;
          short = omega (arith, long);
          some_bays = omega (arith, long);
        };
        side = a.side;
        near = λ t b. near_of b (reached t);
        is_path = λ t b. (read-path (take (d + 1) path) e t).0;
        scouted = sc;
        room_size = room_size;
      }
