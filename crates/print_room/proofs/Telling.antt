-- What is printed from an answer and the list with its plan is the print of the paper's answer: a plan's numbers read as its crossings.
use Rattle.std.proofs.Common.{Err, Ok}
use mathlib.Core.Path.{◌≡◌, refl, sym, ◌∙◌, ap}
use mathlib.Core.List.{List}
use Prim.Native.Nat.{ℕ, ◌≤◌}
use native.Mathlib.Omega.{arith}
use lib.ListN.{length, take}
use lib.Seq.{length-take-le}
use borrow.Author.Tests.{le-leb}
use Rattle.paper.specs.Yard.{Crossing, crossings, most_crossings}
use Rattle.paper.specs.Docket.{granted}
use Rattle.paper.specs.Answers.{Answer, accepted, refused, told}
use Rattle.paper.specs.Print.{printed}
use Rattle.paper.proofs.Tests.{never}
use Rattle.docket.specs.declared.Refusal.{Refusal}
use Rattle.docket.specs.Verdict.{Verdict}
use Rattle.docket.specs.Reading.{refusal_of, verdict_of}
use Rattle.stores.specs.Writing.{Wrote}
use Rattle.printing.specs.Parts.{handed}
use Rattle.print_room.specs.Printout.{Within, Handed, Prints}

pub by_answer : {P : Type 0} (a : Answer) → ((xs : List Crossing) → a ≡ accepted xs → P) → ((r : _) → a ≡ refused r → P) → P
by_answer (accepted xs) f g = f xs refl
by_answer (refused r) f g = g r refl

pub handed-is : (list : List ℕ) → length list ≤ most_crossings → handed list ≡ accepted (crossings list)
unfolding handed
handed-is list h = rw (le-leb (length list) most_crossings h)

pub by-verdict : {P : Type 0} (r : Verdict) → ((m : ℕ) → r ≡ Ok m → P) → ((f : Refusal) → r ≡ Err f → P) → P
by-verdict (Ok m) f g = f m refl
by-verdict (Err d) f g = g d refl

module _ {r : Verdict} {list : List ℕ} where
  pub plan-is : (m : ℕ) → r ≡ Ok m → (a : Answer) → Handed r list a → a ≡ accepted (crossings (take m list))
  plan-is m e a h =
      by_answer a
      (λ xs q.
      let y : granted m ≡ granted (length xs) = rw (e, q) at h.tells in
      let n : m ≡ length xs = cc in
      q ∙ ap accepted (sym (ap (λ j. crossings (take j list)) n ∙ h.stands xs q)))
      (λ f q. let y : granted m ≡ told (refused f) = rw (e, q) at h.tells in never (cc))

  pub refusal_is : (f : Refusal) → r ≡ Err f → (a : Answer) → Handed r list a → a ≡ refused (refusal_of f)
  refusal_is f e a h =
      by_answer a
      (λ xs q. let y : verdict_of (Err f) ≡ told (accepted xs) = rw (e, q) at h.tells in never (cc))
      (λ g q. let y : verdict_of (Err f) ≡ told (refused g) = rw (e, q) at h.tells in let z : refusal_of f ≡ g = cc in q ∙ ap refused (sym z))

  plan-told : (m : ℕ) → r ≡ Ok m → Within r list → (a : Answer) → Handed r list a → handed (take m list) ≡ a
  plan-told m e w a h =
      let k = length-take-le m list (w.inside m e) in
      let i = w.few in
      handed-is (take m list) (omega (arith, w.inside m e)) ∙ sym (plan-is m e a h)

  pub plan-prints : (m : ℕ) → r ≡ Ok m → Within r list → {before after : List ℕ} {n : ℕ} → Wrote before 0 (printed (handed (take m list))) after n → Prints r list before after n
  plan-prints m e w {before} {after} {n} p = record {
    prints = λ a h. rw (ap printed (sym (plan-told m e w a h))) p;
    short = λ f q. never (cc);
  }

  pub refusal-prints : (f : Refusal) → r ≡ Err f → {before after : List ℕ} {n : ℕ} → Wrote before 0 (printed (refused (refusal_of f))) after n → n ≤ 64 → Prints r list before after n
  refusal-prints f e p h = record { prints = λ a k. rw (ap printed (refusal_is f e a k)) p; short = λ g q. h }
