use Rattle.std.proofs.Common.{◌∙◌, arith}
use Rattle.held_lines.proofs.Laid.{none_read}
use Rattle.held_lines.proofs.Listing.{listing-on, listing-end}
use Rattle.held_lines.proofs.list_lines.Goals as goal

pub loop-c-init : goal.loop-c-init
loop-c-init c = c.no_lines-lines.ensures ∙ none_read _

pub loop-c-preserved : goal.loop-c-preserved
loop-c-preserved c = listing-on _ c.args.billed.now c.args.last.now _ _ c.loop-c.invariant (omega arith)

pub returns : goal.returns
returns c = c.hold.ensures ∙ listing-end _ c.args.billed.now c.args.last.now _ _ c.loop-c.invariant c.requires (omega arith)
