-- What each way out of a call says.
use Rattle.std.proofs.Common.{Err, None, Ok, Some}
use mathlib.Core.Path.{◌≡◌, refl, sym, ◌∙◌, ap}
use mathlib.Core.Bool.{true, false}
use mathlib.Core.List.{List}
use Prim.Native.Nat.{ℕ, ◌≤◌, ◌<◌}
use native.Mathlib.Omega.{arith}
use lib.ListN.{length, take, replicate}
use lib.Seq.{sets}
use borrow.Author.Tests.{eq-eqb, ne_eqb, le-leb, lt-leb}
use Rattle.paper.specs.Limits.{most_carriers}
use Rattle.paper.specs.Text.{Text, Read, good, bad_line}
use Rattle.paper.specs.Map.{Grid, read_map, cells, bay_count}
use Rattle.paper.proofs.Tests.{never, not-both, by_read}
use Rattle.docket.specs.declared.Refusal.TheVariants as docket
use Rattle.stores.proofs.Stores.{wrote-stands}
use Rattle.gridmap.specs.declared.Grid.{Grid as Held}
use Rattle.gridmap.specs.MapRead.{MapRead}
use Rattle.gridmap.specs.Cells.{numbering, Reads}
use Rattle.scenario.specs.declared.Reading.{Reading}
use Rattle.scenario.specs.ScenarioRead.{ScenarioRead}
use Rattle.scenario.specs.Under.{state_of, starts_of, goals_of, due_of, read_of, answer_of, answer_by, count_read, Came, Feeds, Over, Ends}
use Rattle.scenario.proofs.Ending.{answer-is, read-good}
use Rattle.paper.specs.Docket.{granted}
use Rattle.readers.proofs.Whole.{map-bad}
use Rattle.link.specs.declared.UnderWay.{UnderWay}
use Rattle.link.specs.declared.Link.{Link}
use Rattle.link.specs.declared.Turn.{Turn}
use Rattle.link.specs.Link.{piece_bytes, reading_in, carriers_in, state_in, under_way_of, under_way_by, link_by, finish_in, told, verdict_by, over_link, FedSays, PieceSays, OverSays, EndSays, BeginSays}
use Rattle.scenario.proofs.Taking.{feeds-sound, ends-sound}
use Rattle.link.proofs.Standing.{sound-in, stored-in, under-way-state, carriers-broken, carriers-on, state-again, carriers-again}

abbrev grid_of : Link → Held
grid_of l = record { height = l.height; width = l.width; bays = 0 }

-- the link with another line under way, and other carriers
abbrev with_under_way : Link → UnderWay → List ℕ → List ℕ → Link
with_under_way l k starts goals = record { start = starts; goal = goals; cells = l.cells; line = k; phase = l.phase; height = l.height; width = l.width }

-- ## A piece
module _ (l : Link) (bytes : Text) (m : length l.start ≡ most_carriers) (n : length l.goal ≡ most_carriers) (s r : Reading) {starts goals : List ℕ} (e : s ≡ reading_in l.line)
    (w : Feeds l.cells (grid_of l) s bytes r l.start starts l.goal goals) (k : UnderWay) (q : k ≡ under_way_of r) where
  came : Came l.cells (grid_of l) (state_in l) bytes r l.start starts l.goal goals
  came =
      let v : Feeds l.cells (grid_of l) (reading_in l.line) bytes r l.start starts l.goal goals = rw e at w in
      feeds-sound l.cells (grid_of l) (reading_in l.line) (sound-in l.line) r bytes v (carriers_in l) l.start l.goal (stored-in l m n)

  under-way-is : k ≡ under_way_by (state_of r came.carriers)
  under-way-is = q ∙ under-way-state r came.sound came.carriers came.stored.count

  pub fed-broken : r.failed ≡ true → FedSays l bytes (with_under_way l k l.start l.goal)
  fed-broken f =
      let none = carriers-broken r came.sound came.carriers f in
      let same : with_under_way l k l.start l.goal ≡ link_by l (state_of r came.carriers) =
      λ i. with_under_way l (under-way-is i) (sym (ap (λ cs. sets l.start 0 (starts_of cs)) none) i) (sym (ap (λ cs. sets l.goal 0 (goals_of cs)) none) i) in
      record {
        leaves = same ∙ ap (link_by l) came.state;
        means = ap (λ x. state_in (with_under_way l x l.start l.goal)) q ∙ state-again r came.sound came.carriers _ (λ g v. not-both f g) ∙ came.state;
      }

  pub fed-on : r.failed ≡ false → FedSays l bytes (with_under_way l k starts goals)
  fed-on f =
      let all = carriers-on r came.sound came.carriers f came.stored.count in
      let same : with_under_way l k starts goals ≡ link_by l (state_of r came.carriers) =
      λ i. with_under_way l (under-way-is i) ((came.stored.starts_wrote.left ∙ sym (ap (λ cs. sets l.start 0 (starts_of cs)) all)) i) ((came.stored.goals_wrote.left ∙ sym (ap (λ cs. sets l.goal 0 (goals_of cs)) all)) i) in
      record {
        leaves = same ∙ ap (link_by l) came.state;
        means = ap (λ x. state_in (with_under_way l x starts goals)) q
            ∙ state-again r came.sound came.carriers _ (λ g v. carriers-again r came.sound came.carriers came.stored m n g v) ∙ came.state;
      }

module _ (l : Link) (bytes : Text) where
  pub piece-more : l.phase ≡ 1 → length bytes ≤ piece_bytes → (r : Link) → FedSays l bytes r → PieceSays l bytes (record { said = None; link = r })
  piece-more e h r w =
      let o = eq-eqb l.phase 1 e in
      let s = le-leb (length bytes) piece_bytes h in
      record { answers = rw (o, s); after = record { leaves = rw (o, s) w.leaves; means = λ a b. w.means } }

  pub piece-long : l.phase ≡ 1 → piece_bytes < length bytes → PieceSays l bytes (record { said = Some (Err docket.LongPiece); link = l })
  piece-long e h =
      let o = eq-eqb l.phase 1 e in
      let s = lt-leb (length bytes) piece_bytes h in
      record { answers = rw (o, s); after = record { leaves = rw (o, s); means = λ a b. not-both b s } }

  pub piece-ended : (l.phase ≡ 1 → ⊥) → PieceSays l bytes (record { said = Some (Err docket.Ended); link = l })
  piece-ended h =
      let o = ne_eqb l.phase 1 h in
      record { answers = rw o; after = record { leaves = rw o; means = λ a b. not-both a o } }

-- ## The end
abbrev ended : Link → List ℕ → List ℕ → Link
ended l starts goals = record { start = starts; goal = goals; cells = l.cells; line = l.line; phase = 2; height = l.height; width = l.width }

module _ (l : Link) (m : length l.start ≡ most_carriers) (n : length l.goal ≡ most_carriers) (s r : Reading) {starts goals : List ℕ} (e : s ≡ reading_in l.line)
    (w : Ends l.cells (grid_of l) s r l.start starts l.goal goals) (found : ScenarioRead) (a : answer_of found ≡ answer_by r) where
  done : Over l.cells (grid_of l) (state_in l) r l.start starts l.goal goals
  done =
      let v : Ends l.cells (grid_of l) (reading_in l.line) r l.start starts l.goal goals = rw e at w in
      ends-sound l.cells (grid_of l) (reading_in l.line) (sound-in l.line) r v (carriers_in l) l.start l.goal (stored-in l m n)

  counted : answer_of found ≡ count_read (read_of r done.carriers)
  counted = a ∙ answer-is r done.carriers done.stored.count

  pub over-good : (k : ℕ) → found ≡ Ok k → OverSays l (record { said = Some (Ok k); link = ended l starts goals })
  over-good k f =
      let c : good k ≡ count_read (read_of r done.carriers) = sym (ap answer_of f) ∙ counted in
      let g = read-good r done.carriers k c in
      let z : finish_in l ≡ good done.carriers = sym done.reads ∙ g in
      let y : good k ≡ good (length done.carriers) = rw g at c in
      let x : k ≡ length done.carriers = cc in
      let t = done.stored.count in
      let there : ended l starts goals ≡ over_link l (good done.carriers) = λ i. ended l (done.stored.starts_wrote.left i) (done.stored.goals_wrote.left i) in
      record {
        answers = ap (λ j. told (granted j)) x ∙ sym (ap (λ R. told (verdict_by R)) z);
        leaves = there ∙ sym (ap (over_link l) z);
        holds = rw z (record {
          starts = ap (λ j. take j starts) t ∙ wrote-stands done.stored.starts_wrote (omega (arith, m, done.sound.few));
          goals = ap (λ j. take j goals) t ∙ wrote-stands done.stored.goals_wrote (omega (arith, n, done.sound.few));
        });
      }

  pub over-bad : (b : ℕ) → found ≡ Err b → OverSays l (record { said = Some (Err (docket.BadScenario b)); link = ended l l.start l.goal })
  over-bad b f =
      by_read (finish_in l)
      (λ cs q.
      let c : bad_line b ≡ count_read (read_of r done.carriers) = sym (ap answer_of f) ∙ counted in
      let y : bad_line b ≡ good (length cs) = c ∙ ap count_read (done.reads ∙ q) in
      never (cc))
      (λ x q.
      let c : bad_line b ≡ count_read (read_of r done.carriers) = sym (ap answer_of f) ∙ counted in
      let y : bad_line b ≡ bad_line x = c ∙ ap count_read (done.reads ∙ q) in
      let z : b ≡ x = cc in
      let p : finish_in l ≡ bad_line b = q ∙ ap bad_line (sym z) in
      record { answers = sym (ap (λ R. told (verdict_by R)) p); leaves = sym (ap (over_link l) p); holds = rw p (record { starts = refl; goals = refl }) })

module _ (l : Link) where
  pub end-open : l.phase ≡ 1 → (r : Turn) → OverSays l r → EndSays l r
  end-open e r w = let o = eq-eqb l.phase 1 e in record { answers = rw o w.answers; after = record { leaves = rw o w.leaves; holds = λ a. w.holds } }

  pub end-ended : (l.phase ≡ 1 → ⊥) → EndSays l (record { said = Some (Err docket.Ended); link = l })
  end-ended h = let o = ne_eqb l.phase 1 h in record { answers = rw o; after = record { leaves = rw o; holds = λ a. not-both a o } }

-- ## The beginning
module _ {map before table : List ℕ} {x : MapRead} (w : Reads map before x table) (l : Link) where
  pub begin-bad : (b : ℕ) → x ≡ Err b → BeginSays (read_map map) l (record { said = Some (Err (docket.BadMap b)); link = l })
  begin-bad b e = let q = map-bad w b e in rw q (record { answers = refl; leaves = refl })

  pub begin-good : (g : Held) → x ≡ Ok g → before ≡ replicate 4096 0 → (s : Reading) → s ≡ due_of true 0 0 0 → (k : UnderWay) → k ≡ under_way_of s
      → BeginSays (read_map map) l (record { said = Some (Ok 0); link = record { start = replicate most_carriers 0; goal = replicate most_carriers 0; cells = table; line = k; phase = 1; height = g.height; width = g.width } })
  begin-good g e z s f k q =
      by_read (read_map map)
      (λ G p.
      let y : ◌≡◌ {A = Read (ℕ × ℕ × ℕ)} (good (g.height, g.width, g.bays)) (good (G.height, G.width, bay_count G)) = rw (e, p) at w.answer in
      let t : ◌≡◌ {A = ℕ × ℕ × ℕ} (g.height, g.width, g.bays) (G.height, G.width, bay_count G) = cc in
      let numbers : table ≡ sets (replicate 4096 0) 0 (numbering 0 (cells G)) = rw (p, z) at w.numbers in
      let new : k ≡ under_way_of (due_of true 0 0 0) = q ∙ ap under_way_of f in
      rw p (record {
        answers = refl;
        leaves = λ i. record { start = replicate most_carriers 0; goal = replicate most_carriers 0; cells = numbers i; line = new i; phase = 1; height = (t i).0; width = (t i).1 };
      }))
      (λ b p. let y : ◌≡◌ {A = Read (ℕ × ℕ × ℕ)} (good (g.height, g.width, g.bays)) (bad_line b) = rw (e, p) at w.answer in never (cc))
