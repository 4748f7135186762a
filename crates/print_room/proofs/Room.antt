-- Every print fits in 180,250 bytes: an accepted plan names carriers and bays below 256, so that each of its 8,192 lines at most has 22 bytes.
use mathlib.Core.Path.{◌≡◌, sym, ◌∙◌, ap}
use mathlib.Core.List.{List, [], ◌∷◌, ◌++◌}
use Prim.Native.Nat.{ℕ, zero, suc, ◌*◌, ◌≤◌, ◌<◌}
use native.Mathlib.Omega.{arith}
use native.Mathlib.Numerals.{add-one}
use lib.ListN.{length, take, get_or, length-append}
use lib.Seq.{take-length, length-take-le}
use Rattle.paper.specs.Limits.{most_bays}
use Rattle.paper.specs.Yard.{Crossing, unpack, crossings}
use Rattle.paper.specs.Answers.{Answer, accepted}
use Rattle.paper.specs.OnePass.{Fits}
use Rattle.paper.specs.Print.{decimal, action_line, cost_line, ended, printed}
use Rattle.laws.proofs.Digits.{ten_to, short}
use Rattle.docket.specs.Verdict.{Verdict}
use Rattle.put_bytes.specs.Named.{named}
use Rattle.printing.specs.Parts.{action_lines}
use Rattle.plan_lines.proofs.Lines.{action-parts, cost-parts}
use Rattle.printing.proofs.Lines.{lines_none, lines_more, plan-parts}
use Rattle.print_room.specs.Printout.{print_room, Prints}
use Rattle.print_room.specs.Ready.{Ready}
use Rattle.print_room.proofs.Telling.{by-verdict, handed-is, plan-is}

three : (n : ℕ) → n < most_bays → length (decimal n) ≤ 3
unfolding ten_to
three n h = short 2 n (omega arith)

four : (n : ℕ) → n ≤ 8192 → length (decimal n) ≤ 4
unfolding ten_to
four n h = short 3 n (omega arith)

action-fits : (x : Crossing) → x.carrier < most_bays → x.from < most_bays → x.to < most_bays → length (ended (action_line x ∷ [])) ≤ 22
unfolding named
action-fits x c f t =
    rw (← action-parts x) (simp length-append (omega (arith, three x.carrier c, three x.from f, three x.to t)))

cost-fits : (n : ℕ) → n ≤ 8192 → length (ended (cost_line n ∷ [])) ≤ 26
unfolding named
cost-fits n h = rw (← cost-parts n) (simp length-append (omega (arith, four n h)))

lines_fit : (list : List ℕ) → Fits most_bays most_bays list → (i : ℕ) → i ≤ length list → length (action_lines (take i list)) ≤ 22 * i
lines_fit list f zero h = rw lines_none (omega arith)
lines_fit list f (suc i) h =
    let k : i < length list = omega arith in
    let g = f i k in
    let a = action-fits (unpack (get_or list i 0)) g.0 g.1 g.2 in
    let ih = lines_fit list f i (omega arith) in
    rw (← add-one i, lines_more list i k) (simp length-append (omega arith))

-- a list that fits the tables of slots is printed within that room
pub listed-fits : (list : List ℕ) → Fits most_bays most_bays list → length list ≤ 8192 → length (printed (accepted (crossings list))) ≤ print_room
listed-fits list fits few =
    let c = rw (ap action_lines (take-length list)) at (lines_fit list fits (length list) (omega arith)) in
    let whole : printed (accepted (crossings list)) ≡ action_lines list ++ ended (cost_line (length list) ∷ []) =
    ap printed (sym (handed-is list (omega arith))) ∙ sym (plan-parts list (omega arith)) in
    rw whole (simp length-append (omega (arith, cost-fits (length list) few)))

-- so an answer that is ready is printed within that room
pub ready-room : {a : Answer} {r : Verdict} {list : List ℕ} → Ready a r list → {before after : List ℕ} {k : ℕ} → Prints r list before after k → k ≤ print_room
ready-room {a} {r} {list} h {before} {after} {k} p =
    let w = h.slottable in
    by-verdict r
    (λ m e.
    let few : length (take m list) ≤ 8192 = omega (arith, length-take-le m list (w.within.inside m e), w.within.inside m e, w.sized) in
    let is = ap (λ b. length (printed b)) (plan-is m e a h.handed) in
    omega (arith, (p.prints a h.handed).counted, is, listed-fits (take m list) (w.fits m e) few))
    (λ f e. omega (arith, p.short f e))
