-- The end of the file closes the line under way, and what is read then is the state without a line under way.
use mathlib.Core.Path.{◌≡◌, refl, sym, ◌∙◌, ap, ap₂}
use mathlib.Core.Bool.{true, false}
use mathlib.Core.List.{List, [], ◌∷◌, ◌++◌, map, map-append, foldl, foldl-append}
use mathlib.Core.Option.{Option, none, some}
use Prim.Native.Nat.{ℕ, suc, ◌+◌, ◌<◌}
use native.Mathlib.Omega.{arith}
use native.Mathlib.Numerals.{add-one}
use lib.Dec.{eqb}
use lib.ListN.{length, set, take, get_or, length-append}
use lib.Seq.{sets, take-suc}
use borrow.Author.Tests.{eq-eqb, eqb-true}
use Rattle.paper.specs.Yard.{Bay}
use Rattle.paper.specs.Text.{Text, Read, good, bad_line}
use Rattle.paper.specs.Scenario.{Listed}
use Rattle.paper.specs.Bytes.{State, failed, going, Under, line_closed, ending, end_after, finish_file, begin_line, in_line, close_line, listed_so_far, unread, scenario_step, scenario_finish}
use Rattle.paper.proofs.Tests.{by_cases, never}
use Rattle.paper.proofs.Stepping.{stepped}
use Rattle.stores.specs.Writing.{Wrote}
use Rattle.stores.proofs.Stores.{wrote_one}
use Rattle.gridmap.specs.declared.Grid.{Grid}
use Rattle.carrier_lists.specs.Counting.{kept}
use Rattle.scenario.specs.declared.Reading.{Reading}
use Rattle.scenario.specs.Under.{bay_by, Sound, line_no, state_of, carriers_after, due_of, read_of, answer_by, count_read, Stored, FeedsOn, EndsOn, Ended, Closes, Steps, Released, Finishes}

module _ (W H : ℕ) (bay : ℕ → ℕ → Option Bay) where
  -- what a state without a line under way gives
  abbrev rest_of : State Under → Read (List (Bay × Bay))
  rest_of (failed n) = bad_line n
  rest_of (going n begun held u) = ending n (listed_so_far W H bay u)

  read-rest : (s : Reading) (cs : List (Bay × Bay)) → read_of s cs ≡ rest_of (state_of s cs)
  unfolding ending listed_so_far
  read-rest s cs =
      by_cases s.failed (λ e. rw e) (λ e. by_cases s.version (λ f. rw (e, f)) (λ f. rw (e, f)))

  rest-closed : (n : ℕ) (o : Option Listed) → rest_of (line_closed (begin_line W H bay) n o) ≡ end_after (begin_line W H bay) (in_line W H bay) (close_line W H bay) (listed_so_far W H bay) n o
  unfolding line_closed end_after
  rest-closed n none = refl
  rest-closed n (some a) = refl

module _ (t : List ℕ) (G : Grid) (s : Reading) where
  same_after : (cs : List (Bay × Bay)) → carriers_after s s cs ≡ cs
  same_after cs = rw (eq-eqb s.count s.count refl)

  pub finishes-failed : Sound s → s.failed ≡ true → Finishes t G s s
  unfolding scenario_finish finish_file
  finishes-failed o e = record {
    sound = o;
    counts = λ cs l. rw (same_after cs) l;
    finishes = λ cs l. rw (same_after cs, e);
  }

  module _ (e : s.failed ≡ false) where
    pub finishes-between : Sound s → s.begun ≡ false → Finishes t G s s
    unfolding scenario_finish finish_file
    finishes-between o f = record {
      sound = o;
      counts = λ cs l. rw (same_after cs) l;
      finishes = λ cs l. rw (same_after cs) (read-rest G.width G.height (bay_by t G) s cs ∙ rw (e, f));
    }

    pub finishes-line : s.begun ≡ true → Sound s → (u : Reading) → Released G s u → (r : Reading) → (Sound u → Closes t G u r) → Finishes t G s r
    unfolding scenario_finish finish_file
    finishes-line f o u k r c =
        let q : Closes t G u r = c (record { first = λ v. k.count ∙ o.first (sym k.version ∙ v); few = omega (arith, k.count, o.few) }) in
        let same : (cs : List (Bay × Bay)) → carriers_after s r cs ≡ carriers_after u r cs = λ cs. rw k.count in
        let here : line_no u.version u.count ≡ line_no s.version s.count = rw (k.version, k.count) in
        record {
          sound = q.sound;
          counts = λ cs l. ap length (same cs) ∙ q.counts cs (l ∙ sym k.count);
          finishes = λ cs l.
              ap (read_of r) (same cs) ∙ (read-rest G.width G.height (bay_by t G) r (carriers_after u r cs)
              ∙ ap (rest_of G.width G.height (bay_by t G)) (q.closes cs (l ∙ sym k.count))
              ∙ rest-closed G.width G.height (bay_by t G) _ _
              ∙ ap₂ (end_after (begin_line G.width G.height (bay_by t G)) (in_line G.width G.height (bay_by t G)) (close_line G.width G.height (bay_by t G)) (listed_so_far G.width G.height (bay_by t G))) here (ap (close_line G.width G.height (bay_by t G)) (k.under (bay_by t G) cs))
              ∙ rw (e, f));
        }

-- ## The answer
module _ (s : Reading) where
  -- what the file gives, with the carriers counted
  pub answer-is : (cs : List (Bay × Bay)) → length cs ≡ s.count → answer_by s ≡ count_read (read_of s cs)
  answer-is cs l =
      by_cases s.version
      (λ e. by_cases s.failed (λ f. rw (e, f)) (λ f. rw (e, f)))
      (λ e. by_cases s.failed
      (λ f. let q : s.count + 2 ≡ suc (suc s.count) = omega arith in rw (e, f, q))
      (λ f. rw (e, f, l)))

-- ## The carriers stored
module _ (s r : Reading) where
  module _ (f : Bay × Bay → ℕ) (cs : List (Bay × Bay)) (l₀ l l' : List ℕ) (h : length cs ≡ s.count) (w : Wrote l₀ 0 (map f cs) l s.count) (e : l' ≡ kept s.count r.count (f (r.start, r.goal)) l) where
    stored_same : eqb r.count s.count ≡ true → Wrote l₀ 0 (map f (carriers_after s r cs)) l' r.count
    unfolding kept
    stored_same t =
        let q : r.count ≡ s.count = eqb-true r.count s.count t in
        let z : l' ≡ l = e ∙ rw t in
        let y : carriers_after s r cs ≡ cs = rw t in
        record { left = z ∙ w.left ∙ ap (λ m. sets l₀ 0 (map f m)) (sym y); counted = q ∙ w.counted ∙ ap (λ m. 0 + length (map f m)) (sym y) }

    stored_more : eqb r.count s.count ≡ false → length (carriers_after s r cs) ≡ r.count → Wrote l₀ 0 (map f (carriers_after s r cs)) l' r.count
    unfolding kept
    stored_more t i =
        let z : l' ≡ set l s.count (f (r.start, r.goal)) = e ∙ rw t in
        let y : carriers_after s r cs ≡ cs ++ ((r.start, r.goal) ∷ []) = rw t in
        let n : r.count ≡ s.count + 1 = sym i ∙ ap length y ∙ length-append cs ((r.start, r.goal) ∷ []) ∙ ap (λ k. k + 1) h in
        rw (y, map-append) (wrote_one (f (r.start, r.goal)) w z n)

    stored_on : length (carriers_after s r cs) ≡ r.count → Wrote l₀ 0 (map f (carriers_after s r cs)) l' r.count
    stored_on i = by_cases (eqb r.count s.count) stored_same (λ t. stored_more t i)

  pub stored_next : (cs : List (Bay × Bay)) {a b c a' b' d : List ℕ} → Stored cs s a b a' b' → length (carriers_after s r cs) ≡ r.count → c ≡ kept s.count r.count r.start b → d ≡ kept s.count r.count r.goal b' → Stored (carriers_after s r cs) r a c a' d
  stored_next cs {a} {b} {c} {a'} {b'} {d} w i e f = record {
    count = i;
    starts_wrote = stored_on (λ c. c.0) cs a b c w.count w.starts_wrote e i;
    goals_wrote = stored_on (λ c. c.1) cs a' b' d w.count w.goals_wrote f i;
  }

-- ## The bytes so far

pub feeds-next : (t : List ℕ) (G : Grid) (s₀ : Reading) (file : Text) (i : ℕ) (s r : Reading) {a b c a' b' d : List ℕ} → i < length file
    → FeedsOn t G s₀ (take i file) s a b a' b' → (Sound s → Steps t G s (get_or file i 0) r) → c ≡ kept s.count r.count r.start b → d ≡ kept s.count r.count r.goal b' → FeedsOn t G s₀ (take (i + 1) file) r a c a' d
feeds-next t G s₀ file i s r h w f e g =
    rw (add-one i, take-suc file i 0 h) (record {
      feeds = λ o cs l l' q.
          let v = w.feeds o cs l l' q in
          let k = f v.sound in
          record {
            carriers = carriers_after s r v.carriers;
            stored = stored_next s r v.carriers v.stored (k.counts v.carriers v.stored.count) e g;
            sound = k.sound;
            state = k.steps v.carriers v.stored.count ∙ ap (λ q. scenario_step G.width G.height (bay_by t G) q (get_or file i 0)) v.state ∙ sym (foldl-append (scenario_step G.width G.height (bay_by t G)) (state_of s₀ cs) (take i file) (get_or file i 0 ∷ []));
          };
    })

pub ends_now : (t : List ℕ) (G : Grid) (s r : Reading) {b c b' d : List ℕ} → (Sound s → Finishes t G s r) → c ≡ kept s.count r.count r.start b → d ≡ kept s.count r.count r.goal b' → EndsOn t G s r b c b' d
ends_now t G s r f e g = record {
  ends = λ o cs l l' q.
      let k = f o in
      record {
        carriers = carriers_after s r cs;
        stored = stored_next s r cs q (k.counts cs q.count) e g;
        sound = k.sound;
        reads = k.finishes cs q.count;
      };
}

pub sound-first : (s : Reading) → s ≡ due_of true 0 0 0 → Sound s
sound-first s e = rw e (record { first = λ v. refl; few = omega arith })

stored-first : (s : Reading) (a b : List ℕ) → s ≡ due_of true 0 0 0 → Stored [] s a a b b
stored-first s a b e = rw e (record { count = refl; starts_wrote = record { left = refl; counted = refl }; goals_wrote = record { left = refl; counted = refl } })

pub came-all : (t : List ℕ) (G : Grid) (file : Text) (s₀ s r : Reading) {a b c a' b' d : List ℕ} → s₀ ≡ due_of true 0 0 0 → FeedsOn t G s₀ file s a b a' b' → EndsOn t G s r b c b' d → Ended file G t r a c a' d
came-all t G file s₀ s r {a} {b} {c} {a'} {b'} {d} e w f =
    let v = w.feeds (sound-first s₀ e) [] a a' (stored-first s₀ a a' e) in
    let k = f.ends v.sound v.carriers a a' v.stored in
    let here : state_of s₀ [] ≡ unread G.width G.height (bay_by t G) = rw e in
    record {
      carriers = k.carriers;
      stored = k.stored;
      reads = k.reads ∙ ap (scenario_finish G.width G.height (bay_by t G)) (v.state ∙ ap (λ q. foldl (scenario_step G.width G.height (bay_by t G)) q file) here) ∙ stepped G.width G.height (bay_by t G) file;
    }

-- ## The whole file

pub read-good : (r : Reading) (cs : List (Bay × Bay)) (k : ℕ) → good k ≡ count_read (read_of r cs) → read_of r cs ≡ good cs
read-good r cs k e =
    by_cases r.failed
    (λ f. let y : good k ≡ bad_line (line_no r.version r.count) = rw f at e in never (cc))
    (λ f. by_cases r.version
    (λ g. let y : good k ≡ bad_line 1 = rw (f, g) at e in never (cc))
    (λ g. rw (f, g)))
