-- `seek::try_junction` meets its contract. Where there is no hope the trial fails; else it is made.
use Rattle.near.proofs.Seeking.{tried-at, tried-never}
use Rattle.seek.proofs.try_junction.Goals as goal

pub hope-outlook-requires : goal.hope-outlook-requires
hope-outlook-requires c = c.requires

pub returns-then-outlook : goal.returns-then-outlook
returns-then-outlook c =
    let hope = c.hope-outlook.ensures in
    record {
      scouted = hope.scouted;
      few = tt;
      tried = λ t b j. tried-never _ _ _ _ _ _ (hope.fails c.if-outlook.true t b);
    }

pub try_on-requires : goal.try_on-requires
try_on-requires c = record { ready = c.requires.ready; trial_on_asks = c.requires.foresee_asks.on_path }

pub returns : goal.returns
returns c =
    let z = c.requires.foresee_asks in
    let hope = c.hope-outlook.ensures in
    let made = c.try_on.ensures in
    record {
      scouted = hope.scouted;
      few = made.few;
      tried = λ t b j. tried-at _ _ _ _ _ _ j (made.attempts t (z.near t b) (z.is_path t b));
    }
