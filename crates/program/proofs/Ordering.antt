-- What the files leave in the lent lists is the order that the paper plans: every order fits there, so the lists begin with all of it.
use Rattle.std.proofs.Common.{Err, Ok}
use mathlib.Core.Path.{◌≡◌, refl, sym, ◌∙◌, ap}
use mathlib.Core.List.{List}
use mathlib.Core.Option.{Option}
use Prim.Native.Nat.{ℕ, ◌≤◌}
use native.Mathlib.Omega.{arith}
use lib.ListN.{length, take, length-map}
use lib.Seq.{sets}
use Rattle.paper.specs.Limits.{most_carriers}
use Rattle.paper.specs.Yard.{Bay}
use Rattle.paper.specs.Order.{order as order_of}
use Rattle.paper.specs.Docket.{Refusal}
use Rattle.paper.specs.Text.{Text}
use Rattle.paper.specs.Answers.{refused, plan}
use Rattle.paper.specs.Program.{program_answer, program_room}
use Rattle.paper.proofs.Tests.{never}
use Rattle.stores.specs.Writing.{Wrote}
use Rattle.stores.proofs.Stores.{wrote-stands, wrote-length}
use Rattle.docket.specs.declared.Refusal.{Refusal as Given}
use Rattle.docket.specs.Reading.{refusal_of}
use Rattle.scenario.specs.Under.{starts_of, goals_of}
use Rattle.filing.specs.declared.Order.{Order}
use Rattle.filing.specs.Ordered.{Ordered}
use Rattle.filing.specs.Filing.{Filed, order, refusal, filed, counts, order_in, told_of, told_by, Files}
use Rattle.filing.proofs.Joining.{program-answers}
use Rattle.filing.proofs.Fitting.{order-fits}

by-filed : {P : Type 0} (f : Filed) → ((n : ℕ) (ends : List Bay) (cs : List (Bay × Bay)) → f ≡ order n ends cs → P) → ((r : Refusal) → f ≡ refusal r → P) → P
by-filed (order n ends cs) f g = f n ends cs refl
by-filed (refusal r) f g = g r refl

-- a text that fits stands at the list's beginning
begins : (before after t : List ℕ) (n : ℕ) → after ≡ sets before 0 t → n ≡ length t → length t ≤ length before → (take n after ≡ t) × (n ≤ length after)
begins before after t n e f h =
    let w : Wrote before 0 t after n = record { left = e; counted = omega arith } in
    (wrote-stands w (omega arith), omega (arith, wrote-length w))

-- the order is what the lists begin with
pub record Stands (map_file scenario_file : Option Text) (o : Order) (ends starts goals : List ℕ) : Type 0 where
  pub rails : o.ends ≤ length ends
  pub starting : o.carriers ≤ length starts
  pub ending : o.carriers ≤ length goals
  pub answers : plan (order_in o ends starts goals) program_room ≡ program_answer map_file scenario_file

module _ {map_file scenario_file : Option Text} {r : Ordered} {ends₀ ends starts₀ starts goals₀ goals : List ℕ} (f : Files map_file scenario_file r ends₀ ends starts₀ starts goals₀ goals) where
  pub order-stands : (o : Order) → r ≡ Ok o → 16384 ≤ length ends₀ → most_carriers ≤ length starts₀ → most_carriers ≤ length goals₀ → Stands map_file scenario_file o ends starts goals
  order-stands o e he hs hg =
      by-filed (filed map_file scenario_file)
      (λ n es cs q.
      let y : counts o.bays o.ends o.carriers ≡ counts n (length es) (length cs) = rw (e, q) at f.answer in
      let a : o.bays ≡ n = cc in
      let b : o.ends ≡ length es = cc in
      let c : o.carriers ≡ length cs = cc in
      let k = order-fits map_file scenario_file n es cs q in
      let s : length (starts_of cs) ≡ length cs = length-map cs (λ x. x.0) in
      let g : length (goals_of cs) ≡ length cs = length-map cs (λ x. x.1) in
      let E = begins ends₀ ends es o.ends (rw q at f.ends_left) b (omega (arith, k.rails)) in
      let S = begins starts₀ starts (starts_of cs) o.carriers (rw q at f.starts_left) (c ∙ sym s) (omega (arith, k.carriers)) in
      let G = begins goals₀ goals (goals_of cs) o.carriers (rw q at f.goals_left) (c ∙ sym g) (omega (arith, k.carriers)) in
      record {
        rails = E.1;
        starting = S.1;
        ending = G.1;
        answers = (λ i. plan (order_of (a i) (E.0 i) (S.0 i) (G.0 i)) program_room) ∙ sym (program-answers map_file scenario_file ∙ rw q refl);
      })
      (λ d q. let y : counts o.bays o.ends o.carriers ≡ told_by (refusal d) = rw (e, q) at f.answer in never (cc))

  pub refusal-stands : (d : Given) → r ≡ Err d → refused (refusal_of d) ≡ program_answer map_file scenario_file
  refusal-stands d e =
      by-filed (filed map_file scenario_file)
      (λ n es cs q. let y : told_of (Err d) ≡ told_by (order n es cs) = rw (e, q) at f.answer in never (cc))
      (λ x q.
      let y : told_of (Err d) ≡ told_by (refusal x) = rw (e, q) at f.answer in
      let z : refusal_of d ≡ x = cc in
      sym (program-answers map_file scenario_file ∙ rw q (ap refused (sym z))))
