-- A line that ends gives the state that its worth asks for: the `p` line, a rail more, a comment, or a broken layout in this line.
use mathlib.Core.Path.{◌≡◌, ◌∙◌, ap}
use mathlib.Core.Bool.{true, false}
use mathlib.Core.List.{List, [], ◌∷◌}
use mathlib.Core.Option.{Option, none, some}
use Prim.Native.Nat.{ℕ, ◌+◌, ◌-◌, ◌*◌, ◌≤◌, ◌<◌}
use native.Mathlib.Omega.{arith}
use lib.Dec.{ltb, leb}
use lib.ListN.{length, length-append}
use borrow.Author.Tests.{lt-ltb, le-ltb, le-leb, lt-leb}
use Rattle.lists.proofs.Lists.{no_length}
use Rattle.paper.specs.Basics.{◌and◌}
use Rattle.paper.specs.Yard.{Bay}
use Rattle.paper.specs.Text.{Text}
use Rattle.paper.specs.Bytes.{line_closed}
use Rattle.paper.proofs.Fields.{and-false}
use Rattle.survey.specs.Survey.{Surveyed, taken}
use Rattle.survey.specs.Bytes.{begin_line, close_line, line_worth}
use Rattle.edge_lines.specs.Lines.{part_of, word_by, count_of, due_of, ends_after, Opened, Broken, Ended, Takes, Closes}
use Rattle.edge_lines.specs.declared.Due.TheVariants.{Head, Rails}
use Rattle.edge_lines.specs.declared.Part.{Part}
use Rattle.edge_lines.specs.declared.Part.TheVariants.{Comment, Second}
use Rattle.edge_lines.specs.declared.Reading.{Reading}

-- no rail more, no end more
pub same_ends : (s r : Reading) (ends : List Bay) → r.due ≡ s.due → ends_after s r ends ≡ ends
same_ends s r ends e = rw (e, le-ltb (count_of s.due) (count_of s.due) (omega arith))

module _ (worth : List Bay → Option Surveyed) (s r : Reading) where
  pub ended-broken : Broken s r → ((ends : List Bay) → length ends ≡ count_of s.due → worth ends ≡ none) → Ended worth s r
  unfolding line_closed
  ended-broken q f = record {
    most = omega (arith, q.line);
    counts = λ ends l. rw (same_ends s r ends q.due, q.due) l;
    ended = λ h ends l. rw (same_ends s r ends q.due, f ends l, q.failed, q.line);
  }

  pub ended_same : (a b : ℕ) → Opened s s.due a b r → ((ends : List Bay) → length ends ≡ count_of s.due → worth ends ≡ some (due_of s.due ends)) → Ended worth s r
  unfolding line_closed begin_line
  ended_same a b o f = record {
    most = o.line.most;
    counts = λ ends l. rw (same_ends s r ends o.due, o.due) l;
    ended = λ h ends l. rw (same_ends s r ends o.due, f ends l, o.failed, o.begun, o.held, o.due, o.part, o.line.one h);
  }

module _ (s r : Reading) (p q : ℕ) where
  pub takes-head : (a b : ℕ) → s.due ≡ Head → Opened s (Rails p q 0) a b r → Takes s p q r
  unfolding line_closed begin_line taken
  takes-head a b e o =
      let none_more : ltb (count_of s.due) (count_of r.due) ≡ false = rw (e, o.due) (le-ltb 0 0 (omega arith)) in
      record {
        most = o.line.most;
        counts = λ ends l. let z : ends ≡ [] = no_length ends (l ∙ ap count_of e) in rw (none_more, z, o.due);
        ended = λ h ends l. let z : ends ≡ [] = no_length ends (l ∙ ap count_of e) in rw (none_more, z, o.failed, o.begun, o.held, o.due, o.part, o.line.one h, e);
      }

  module _ (n m k : ℕ) (e : s.due ≡ Rails n m k) where
    bad-rail : ((ends : List Bay) → length ends ≡ k → (ltb (length ends) (2 * m) and leb 1 p and leb 1 q) ≡ false) → (ends : List Bay) → length ends ≡ count_of s.due → taken (due_of s.due ends) (p, q) ≡ none
    unfolding taken
    bad-rail f ends l = rw (e, f ends (l ∙ ap count_of e))

    pub takes-more : 2 * m ≤ k → Broken s r → Takes s p q r
    unfolding ◌and◌
    takes-more h b = ended-broken _ s r b (bad-rail (λ ends l. rw (l, le-ltb k (2 * m) h)))

    pub takes-zero : p < 1 → Broken s r → Takes s p q r
    unfolding ◌and◌
    takes-zero h b = ended-broken _ s r b (bad-rail (λ ends l. rw (lt-leb 1 p h, and-false (ltb (length ends) (2 * m)))))

    pub takes-zero-2 : q < 1 → Broken s r → Takes s p q r
    takes-zero-2 h b = ended-broken _ s r b (bad-rail (λ ends l. rw (lt-leb 1 q h, and-false (ltb (length ends) (2 * m) and leb 1 p))))

    pub takes-rail : k < 2 * m → 1 ≤ p → 1 ≤ q → Opened s (Rails n m (k + 2)) (p - 1) (q - 1) r → Takes s p q r
    unfolding line_closed begin_line taken ◌and◌
    takes-rail h i j o =
        let more : ltb (count_of s.due) (count_of r.due) ≡ true = rw (e, o.due) (lt-ltb k (k + 2) (omega arith)) in
        record {
          most = o.line.most;
          counts = λ ends l. rw (more, o.due) (length-append ends (r.from ∷ r.to ∷ []) ∙ ap (λ x. x + 2) (l ∙ ap count_of e));
          ended = λ g ends l. rw (more, o.failed, o.begun, o.held, o.due, o.part, o.from, o.to, o.line.one g, e, l ∙ ap count_of e, lt-ltb k (2 * m) h, le-leb 1 p i, le-leb 1 q j);
        }

-- ## The line by its last part
module _ (s r : Reading) where
  -- a line that is worth nothing
  pub closes-none : (p : Part) → s.part ≡ p → ((w : Text) (a : Surveyed) → line_worth a (part_of w p) ≡ none) → Broken s r → Closes s r
  unfolding close_line
  closes-none p e f b = ended-broken _ s r b (λ ends l. rw e (f (word_by s.due) (due_of s.due ends)))

  pub closes-few : (p k n : ℕ) → s.part ≡ Second p k n → k < 1 → Broken s r → Closes s r
  unfolding line_worth
  closes-few p k n e h b = closes-none (Second p k n) e (λ w a. rw (lt-leb 1 k h)) b

  pub closes-two : (p k n : ℕ) → s.part ≡ Second p k n → 1 ≤ k → Takes s p n r → Closes s r
  unfolding close_line line_worth
  closes-two p k n e h t = record {
    most = t.most;
    counts = t.counts;
    ended = λ g ends l. t.ended g ends l ∙ rw (e, le-leb 1 k h);
  }

  pub closes-comment : (a b : ℕ) → s.part ≡ Comment → Opened s s.due a b r → Closes s r
  unfolding close_line line_worth
  closes-comment a b e o = ended_same _ s r a b o (λ ends l. rw e)
