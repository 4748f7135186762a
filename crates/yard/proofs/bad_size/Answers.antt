-- Each test that is met is the first clause of 1 that holds; where none is met the last clause decides.
use Rattle.std.proofs.Common.{lt-ltb, le-ltb, eq-eqb, ne_eqb}
use Rattle.paper.specs.Basics.{◌or◌}
use Rattle.paper.specs.Docket.{bad_size}
use Rattle.yard.proofs.bad_size.Goals as goal

pub returns-then-n-lt-FEWEST : goal.returns-then-n-lt-FEWEST
unfolding bad_size ◌or◌
returns-then-n-lt-FEWEST c = rw (lt-ltb _ _ c.if-n-lt-FEWEST.true)

pub returns-then-n-gt-BAYS : goal.returns-then-n-gt-BAYS
unfolding bad_size ◌or◌
returns-then-n-gt-BAYS c = rw (le-ltb _ _ c.if-n-lt-FEWEST.false, lt-ltb _ _ c.if-n-gt-BAYS.true)

pub returns-then-rails-gt-RAILS : goal.returns-then-rails-gt-RAILS
unfolding bad_size ◌or◌
returns-then-rails-gt-RAILS c = rw (le-ltb _ _ c.if-n-lt-FEWEST.false, le-ltb _ _ c.if-n-gt-BAYS.false, lt-ltb _ _ c.if-rails-gt-RAILS.true)

pub returns-then-rails-eq1 : goal.returns-then-rails-eq1
unfolding bad_size ◌or◌
returns-then-rails-eq1 c = rw (le-ltb _ _ c.if-n-lt-FEWEST.false, le-ltb _ _ c.if-n-gt-BAYS.false, le-ltb _ _ c.if-rails-gt-RAILS.false, eq-eqb _ _ c.if-rails-eq1.true)

pub returns-then-start-goal : goal.returns-then-start-goal
unfolding bad_size ◌or◌
returns-then-start-goal c = rw (le-ltb _ _ c.if-n-lt-FEWEST.false, le-ltb _ _ c.if-n-gt-BAYS.false, le-ltb _ _ c.if-rails-gt-RAILS.false, ne_eqb _ _ c.if-rails-eq1.false, ne_eqb _ _ c.if-start-goal.true)

pub returns : goal.returns
unfolding bad_size ◌or◌
returns c = rw (le-ltb _ _ c.if-n-lt-FEWEST.false, le-ltb _ _ c.if-n-gt-BAYS.false, le-ltb _ _ c.if-rails-gt-RAILS.false, ne_eqb _ _ c.if-rails-eq1.false, eq-eqb _ _ c.if-start-goal.false)
