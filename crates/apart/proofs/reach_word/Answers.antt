use Rattle.std.proofs.Common.{[], refl, arith}
use Rattle.words.proofs.Sets.{mem-zeros}
use Rattle.apart.proofs.Reaching.{seeing-first, seeing-more, seen-dry, seen_all, low_first, low-more}
use Rattle.apart.proofs.Word.{only-first, first-words, dry-word, settled-word}
use Rattle.apart.proofs.reach_word.Goals as goal
use Rattle.apart.proofs.reach_word.Goals.{Start}

pub loop-init : goal.loop-init
loop-init c = record {
  seeing = λ Y t. seeing-first Y _ _ c.requires.0 (omega (arith, c.requires.1)) t [] _ [] _ (mem-zeros 0) only-first (mem-zeros 0) only-first;
  low = low_first _ [] _ c.requires.0 (mem-zeros 0) only-first;
}

pub returns-then-ring-eq0 : goal.returns-then-ring-eq0
returns-then-ring-eq0 c =
    let l = c.loop in
    (record { same = λ Y t. seen-dry Y _ _ c.requires.0 (omega (arith, c.requires.1)) t l.counter _ _ (l.invariant.seeing Y t) _ (dry-word l.ring c.if-ring-eq0.true) refl }, omega arith)

pub beside_word-next-requires : goal.beside_word-next-requires
beside_word-next-requires c = first-words c.args.n _ _ c.requires.1 c.requires.2 c.loop.invariant.low

pub loop-preserved : goal.loop-preserved
loop-preserved c =
    let l = c.loop in
    let beside = c.beside_word-next in
    let settles = settled-word beside.result l.seen (omega arith) in record {
      seeing = λ Y t. seeing-more Y _ _ c.requires.0 (omega (arith, c.requires.1)) t l.counter _ _ _ _ _ (l.invariant.seeing Y t) beside.ensures settles;
      low = low-more _ _ _ _ _ _ _ c.requires.2 l.invariant.low beside.ensures settles;
    }

pub returns : goal.returns
returns c =
    let l = c.loop in
    (record { same = λ Y t. seen_all Y _ _ c.requires.0 (omega (arith, c.requires.1)) t l.counter _ _ (l.invariant.seeing Y t) (omega arith) }, omega arith)
