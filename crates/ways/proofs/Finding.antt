-- Ring after ring, what is taken of the wanted bays in the first ring that has one is the nearest, and the path back from it is the paper's.
-- Where a ring leads to nothing new, there is none.
-- Assumes nothing.
use Rattle.std.proofs.Common.{None, Some}
use mathlib.Core.Path.{◌≡◌, refl, sym, ap, ◌∙◌}
use mathlib.Core.Bool.{Bool, true, false, not}
use mathlib.Core.List.{List, [], ◌∷◌}
use mathlib.Core.Option.{some}
use Prim.Native.Nat.{ℕ, ◌+◌, ◌-◌, ◌*◌, ◌≤◌, ◌<◌}
use native.Mathlib.Decide.{ℕ_discrete, dec_lt}
use native.Mathlib.Omega.{arith}
use lib.Dec.{eqb}
use lib.ListN.{length, take}
use borrow.Author.Tests.{eqb-true, eq-eqb, not-true}
use Rattle.paper.specs.Basics.{◌and◌, ◌or◌, elem, In}
use Rattle.paper.specs.Yard.{Bay}
use Rattle.paper.specs.Path.{rings, nearest_first, ring_of, path_between}
use Rattle.paper.proofs.Tests.{by_cases, not-both, and_left, and_right, and_both, or_right, or_cases, some_same}
use Rattle.paper.proofs.Members.{In-nil, In-one, In-head}
use Rattle.paper.proofs.Choosing.{chosen-alone}
use Rattle.paper.proofs.Nearest.{nearest-chosen, nearest-found, nearest-none, none-nearest}
use Rattle.paper.proofs.Rings.{in-concat, distance-in, reached-sym}
use Rattle.paper.proofs.Shortest.{inward-zero}
use Rattle.docket.specs.declared.Bay.{Bay as Held}
use Rattle.words.specs.Sets.{mem, mem_row, words, span, Kept}
use Rattle.words.proofs.Sets.{row_zero}
use Rattle.choice.specs.Taking.{Rowed, Taken}
use Rattle.choice.proofs.Taking.{taken-chosen}
use Rattle.rings.specs.Search.{Shown, ring_on}
use Rattle.rings.specs.Ways.{WayFound, PathFound, path_along}
use Rattle.rings.specs.Way.{Way}
use Rattle.rings.proofs.Searching.{in-yard}
use Rattle.rings.proofs.Reading.{way-none}
use Rattle.rings.proofs.Between.{shortest-far}
use Rattle.queue.specs.Meeting.{back}
use Rattle.queue.specs.Queue.{Low, Met, Passed}
use Rattle.ways.proofs.Passing.{Within, first-ring, of-first, start-within, start-met, wider, all-dry}
use Rattle.ways.proofs.Tracing.{free_of, path-back}

-- ## Where the search stands

-- at ring d, and no ring up to it has a wanted bay
pub record Stage {n : ℕ} {table held : List ℕ} (s : Shown n table held) (x : Bay) (wanted : List ℕ) (d : ℕ) (seen met before : List ℕ) (done count : ℕ) : Type 0 where
  pub queue : Met n table held x seen (take count met) before done
  pub within : Within s x d (take count met)
  pub missed : (i b : ℕ) → i ≤ d → In b (ring_on s x i) → mem wanted b ≡ false
  pub near : d ≤ done

module _ {n : ℕ} {table held : List ℕ} (s : Shown n table held) (most : n ≤ span) (x : Bay) (hx : x < n) (unheld : mem held x ≡ false) where
  pub stage-first : (wanted seen₀ seen₁ seen met before : List ℕ) → Low before → mem wanted x ≡ false → Kept seen₀ 0 held seen₁ → ((y : ℕ) → mem seen y ≡ mem seen₁ y or eqb y x)
      → take 1 met ≡ x ∷ [] → Stage s x wanted 0 seen met before 0 1
  stage-first wanted seen₀ seen₁ seen met before low miss k f first = record {
    queue = rw first (start-met s x hx unheld seen before low (λ b l. f b ∙ rw (sym (row_zero seen₁ b) ∙ k.row b l)));
    within = rw first (start-within s x hx);
    missed = λ i b l y. rw (In-one b x (of-first s x hx i b l y)) miss;
    near = omega arith;
  }

  module _ (wanted : List ℕ) (d : ℕ) (seen met before : List ℕ) (done count : ℕ) (g : Stage s x wanted d seen met before done count)
      (seen' met' before' : List ℕ) (r : ℕ) (p : Passed n table held x met count seen' met' before' count r) (some_left : done < count) (room : n ≤ length met') where
    -- ## Nothing new

    pub way-nowhere : r ≡ count → (q : Bay → Bool) → ((b : ℕ) → b < n → mem wanted b ≡ q b) → (path : List ℕ) → WayFound s x q path None
    way-nowhere e q w path =
        let rs = rings s.yard s.bays x in
        way-none s x q path (sym (nearest-none s.yard s.bays x q (λ b i.
        let k : ℕ = ring_of s.yard b rs in
        let y : In b (ring_on s x k) = distance-in s.yard b rs i in
        elim (dec_lt d k) [
          | yes h ↦ let z : k ≡ (k - (d + 1)) + (d + 1) = omega arith in absurd (all-dry s most x hx d g.within (omega (arith, g.near)) p room e (k - (d + 1)) b (rw z at y))
          | no h ↦ sym (w b (in-yard s x most hx k b y)) ∙ g.missed k b (omega arith) y
        ])))

    -- ## One ring more

    module _ (grew : count < r) where
      far : d + 1 < n
      far = omega (arith, g.near, p.most)

      widened : Within s x (d + 1) (take r met')
      widened = wider s most x hx d g.within (omega (arith, g.near)) p room grew

      -- what is seen and free is of the newest ring: held bays are not free, and no ring before it has a wanted bay
      module _ (free₀ free₁ free : List ℕ) (f : Kept free₀ 0 wanted free₁) (f' : (b : ℕ) → mem free b ≡ mem free₁ b and not (mem held b)) where
        is_free : (b : ℕ) → b < span → mem_row free 0 b ≡ mem wanted b and not (mem held b)
        is_free b h = row_zero free b ∙ f' b ∙ rw (sym (row_zero free₁ b) ∙ f.row b h)

        in-queue : (b : ℕ) → b < span → mem_row seen' 0 b and mem_row free 0 b ≡ true → In b (take r met')
        in-queue b h i =
            or_cases (mem held b) (elem b (take r met')) (sym (p.queue.seeing b h) ∙ sym (row_zero seen' b) ∙ and_left _ _ i)
            (λ t. not-both t (not-true _ (and_right _ _ (sym (is_free b h) ∙ and_right _ _ i)))) (λ t. t)

        pub free-rowed : n * words ≤ length table → Rowed table (λ y. mem_row seen' 0 y and mem_row free 0 y)
        free-rowed len b h i = omega (arith, p.queue.inside b (in-queue b h i))

        among : (b : ℕ) → In b (ring_on s x (d + 1)) → mem wanted b ≡ true → (b < n) × (mem_row seen' 0 b and mem_row free 0 b ≡ true)
        among b i t =
            let hb : b < n = in-yard s x most hx (d + 1) b i in
            let low : b < span = omega arith in
            let y : In b (take r met') = widened.holds (d + 1) b (omega arith) i in
            let sees : mem_row seen' 0 b ≡ true = row_zero seen' b ∙ p.queue.seeing b low ∙ or_right _ _ y in
            (hb, and_both _ _ sees (is_free b low ∙ and_both _ _ t (ap not (p.queue.unheld b y))))

        module _ (e : ℕ) (l : Taken table (λ y. mem_row seen' 0 y and mem_row free 0 y) e) where
          pub stage-more : span ≤ e → Stage s x wanted (d + 1) seen' met' before' count r
          stage-more h = record {
            queue = p.queue;
            within = widened;
            missed = λ i b k y. elim (ℕ_discrete i (d + 1)) [
              | yes o ↦
                  let y' : In b (ring_on s x (d + 1)) = rw o at y in
                  by_cases (mem wanted b)
                  (λ t. let z = among b y' t in not-both z.1 (l.missing h b (omega (arith, z.0))))
                  (λ t. t)
              | no o ↦ g.missed i b (omega arith) y
            ];
            near = omega (arith, g.near);
          }

          pub way-found : e < span → (q : Bay → Bool) → ((b : ℕ) → b < n → mem wanted b ≡ q b) → (room : List ℕ) (bay : Held) → bay.0 ≡ e
              → take (d + 1 + 1) room ≡ back before' (d + 1) e [] → WayFound s x q room (Some (bay, (d + 1 + 1)))
          way-found hit q w room bay same path =
              let is-wanted : mem wanted e ≡ true = and_left _ _ (sym (is_free e hit) ∙ and_right _ _ (l.hit hit)) in
              let queued = in-queue e hit (l.hit hit) in
              let k = widened.only e queued in
              let e-in : In e (ring_on s x (d + 1)) = elim (ℕ_discrete k.0 (d + 1)) [
                | yes o ↦ rw o at k.2
                | no o ↦ not-both is-wanted (g.missed k.0 e (omega (arith, k.1)) k.2)
              ] in
              let low : (i b : ℕ) → In b (ring_on s x i) → b < n = in-yard s x most hx in
              let chosen = taken-chosen s.joins most q (ring_on s x (d + 1)) l (low (d + 1) e e-in) e-in (sym (w e (low (d + 1) e e-in)) ∙ is-wanted)
              (λ b y h. among b y (w b (low (d + 1) b y) ∙ h)) in
              record {
                nearest = rw same (sym (nearest-chosen s.yard s.bays x q (d + 1) chosen (λ i b h y. sym (w b (low i b y)) ∙ g.missed i b (omega arith) y)));
                fits = let h = far in omega arith;
                path = λ y k.
                    let it : e ≡ y = let u = rw same at k in some_same u in
                    rw (← it) (path ∙ path-back s most x e (d + 1) p.queue hx unheld e-in queued);
              }

  -- ## x itself

  pub way-here : (wanted : List ℕ) → mem wanted x ≡ true → (q : Bay → Bool) → ((b : ℕ) → b < n → mem wanted b ≡ q b) → (room : List ℕ) (bay : Held) → bay.0 ≡ x
      → take 1 room ≡ x ∷ [] → WayFound s x q room (Some (bay, 1))
  way-here wanted hit q w room bay same path =
      let x-in : In x (ring_on s x 0) = rw (first-ring s x hx) (In-head x []) in
      record {
        nearest = rw same (sym (nearest-chosen s.yard s.bays x q 0
            (rw (first-ring s x hx) (chosen-alone s.yard q x [] (sym (w x hx) ∙ hit) (λ b i. In-nil b i))) (λ i b h y. absurd (omega arith))));
        fits = omega arith;
        path = λ y k.
            let it : x ≡ y = let u = rw same at k in some_same u in
            rw (← it) (path ∙ sym (shortest-far s.yard s.bays x x 0 (free_of s most x hx unheld) x-in ∙ inward-zero s.yard (rings s.yard s.bays x) x));
      }

-- ## The way to one bay is the path to it

module _ {n : ℕ} {table held : List ℕ} (s : Shown n table held) (most : n ≤ span) (u v : Bay) (hu : u < n) (hv : v < n) (u-free : mem held u ≡ false) (v-free : mem held v ≡ false) (room : List ℕ) where
  abbrev pub is_goal : Bay → Bool
  is_goal b = eqb b v

  path-first : (e : Held) (m : ℕ) → WayFound s u is_goal room (Some (e, m)) → PathFound s u v room (Some m)
  unfolding path_between
  path-first e m f =
      let g = nearest-found s.yard s.bays u is_goal (sym f.nearest) in
      let same : e.0 ≡ v = eqb-true e.0 v g.found.passes in
      let e-in : In e.0 (nearest_first s.yard s.bays u) = in-concat s.yard e.0 (rings s.yard s.bays u) g.ring g.found.there in
      let v-in : In v (nearest_first s.yard s.bays u) = rw same at e-in in
      let u-in : In u (nearest_first s.yard s.bays v) = reached-sym s.yard s.bays u v (free_of s most u hu u-free) v-in in
      record { fits = f.fits; same = rw u-in (ap some (f.path v (ap some same))) }

  path-none : WayFound s u is_goal room None → PathFound s u v room None
  unfolding path_between
  path-none f =
      let out : elem u (nearest_first s.yard s.bays v) ≡ false =
      by_cases (elem u (nearest_first s.yard s.bays v))
      (λ i.
      let v-in = reached-sym s.yard s.bays v u (free_of s most v hv v-free) i in
      not-both (eq-eqb v v refl) (none-nearest s.yard s.bays u is_goal (sym f.nearest) v v-in))
      (λ o. o) in
      record { fits = omega arith; same = rw out }

  pub path-of : (r : Way) → WayFound s u is_goal room r → PathFound s u v room (path_along r)
  path-of (Some (e, m)) f = path-first e m f
  path-of None f = path-none f
