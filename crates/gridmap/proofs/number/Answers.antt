use Rattle.std.proofs.Common.{◌≡◌, refl, sym, ◌∙◌, ap, length, [], ◌∷◌, ◌++◌, ◌+◌, arith, take, get_or, length-append}
use Rattle.paper.specs.Basics.{filter}
use Rattle.paper.specs.Text.{count}
use Rattle.paper.specs.Map.{bay_letter}
use Rattle.gridmap.specs.Cells.{letters, numbering}
use Rattle.gridmap.proofs.Numbering.{count-with, letters-more, letters-same, letters-few, count-few, numbered_more}
use Rattle.gridmap.proofs.number.Goals as goal
use Rattle.gridmap.proofs.number.Goals.{then-is_letter, else-is_letter}

pub loop-b-init : goal.loop-b-init
unfolding numbering filter count
loop-b-init c = record { wrote = record { left = refl; counted = refl }; letters_passed = refl; bays_passed = refl }

pub mark-requires : goal.mark-requires
mark-requires c =
    let l = take c.loop-b.b-index c.args.file.now in
    omega (arith, count-few bay_letter (letters l), letters-few c.args.file.now c.loop-b.b-index)

pub counted-bays-requires : goal.counted-bays-requires
counted-bays-requires c =
    let l = take c.loop-b.b-index c.args.file.now in
    omega (arith, count-few bay_letter (letters l), letters-few c.args.file.now c.loop-b.b-index)

pub overflow_add-n : goal.overflow_add-n
overflow_add-n c = omega (arith, letters-few c.args.file.now c.loop-b.b-index)

pub loop-b-preserved : goal.loop-b-preserved
loop-b-preserved c =
    let loop = c.loop-b in
    let i = loop.b-index in
    let file = c.args.file.now in
    let b = get_or file i 0 in
    elim c.if-is_letter.branch [
      | then-is_letter w ↦
          let e : letters (take (i + 1) file) ≡ letters (take i file) ++ (b ∷ []) = letters-more file i (omega arith) (sym c.is_letter.ensures ∙ w.if-is_letter.true) in
          record {
            wrote = rw (e, w.cells-is, w.n-is) (numbered_more b (letters (take i file)) loop.invariant.bays_passed loop.invariant.wrote w.mark.ensures w.store.ensures);
            letters_passed = omega (arith, ap length e, length-append (letters (take i file)) (b ∷ []));
            bays_passed = rw (e, w.bays-is) (w.counted-bays.ensures.0 ∙ count-with b loop.bays (letters (take i file)) loop.invariant.bays_passed);
          }
      | else-is_letter w ↦
          let e : letters (take (i + 1) file) ≡ letters (take i file) = letters-same file i (omega arith) (sym c.is_letter.ensures ∙ w.if-is_letter.false) in
          record {
            wrote = rw (e, w.cells-is, w.n-is) loop.invariant.wrote;
            letters_passed = rw (e, w.n-is) loop.invariant.letters_passed;
            bays_passed = rw (e, w.bays-is) loop.invariant.bays_passed;
          }
    ]
