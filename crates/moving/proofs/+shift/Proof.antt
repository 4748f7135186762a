-- `moving::shift` meets its contract. The rest of the path has moved on, so the stretch before it can be shifted, and both are the path's shift.
-- Assumes nothing.
use mathlib.Core.Path.{◌∙◌, ◌≡◌, sym}
use mathlib.Core.List.{List}
use native.Mathlib.Omega.{arith}
use lib.ListN.{length, take}
use lib.Seq.{length-take-le}
use borrow.Author.Rules.{rules}
use Rattle.moving.specs.Placed.{CanShift}
use Rattle.moving.proofs.Stretches.{rest-length, can-rest, can-stretch, stretch-fits, shift-both}
use Prim.Native.Nat.{ℕ, ◌<◌}
use borrow.Fn.Kinds.{In}
use borrow.Fn.PlainCycle.{Measures, is, falls, and}
use Rattle.moving.proofs.shift.Reads as shift
use Rattle.moving.proofs.shift.Kinds as shift_kinds
use Rattle.moving.proofs.+shift.Lts-shift as shift-lts
use Rattle.moving.proofs.shift_stretch.Reads as shift-stretch-reads
use Rattle.moving.proofs.+shift.{statement}
use Rattle.moving.proofs.+shift.Tie.{close}

abbrev μ-shift : Measures 5 shift_kinds.ps ℕ
μ-shift κs a = length a.0.now

abbrev shift-at : ℕ → In 5 shift_kinds.ps
shift-at t = and 5 shift_kinds.ps (is 5 shift_kinds.ps μ-shift t) shift.Pre

abbrev shift-below : ℕ → In 5 shift_kinds.ps
shift-below t = and 5 shift_kinds.ps (falls 5 shift_kinds.ps ◌<◌ μ-shift t) shift.Pre

shift-shift-stretch-requires : (t : ℕ) → shift-lts.Need-shift_stretch-requires (
  shift-stretch-reads.Asked,
  shift-stretch-reads.Learnt,
  shift-below t,
  shift.Post,
) (shift-at t) shift.Post
shift-shift-stretch-requires t c κs = search rules

shift-same-length : (t : ℕ) → shift-lts.Need-shape_of-placement-then-path-le-STRETCH (
  shift-stretch-reads.Asked,
  shift-stretch-reads.Learnt,
  shift-below t,
  shift.Post,
) (shift-at t) shift.Post
shift-same-length t c = c.shift_stretch.auto.placement

shift-same-length-2 : (t : ℕ) → shift-lts.Need-shape_of-standing-then-path-le-STRETCH (
  shift-stretch-reads.Asked,
  shift-stretch-reads.Learnt,
  shift-below t,
  shift.Post,
) (shift-at t) shift.Post
shift-same-length-2 t c = c.shift_stretch.auto.standing

shift-same-length-3 : (t : ℕ) → shift-lts.Need-shape_of-empty-then-path-le-STRETCH (
  shift-stretch-reads.Asked,
  shift-stretch-reads.Learnt,
  shift-below t,
  shift.Post,
) (shift-at t) shift.Post
shift-same-length-3 t c = c.shift_stretch.auto.empty

shift-same-length-4 : (t : ℕ) → shift-lts.Need-shape_of-out-then-path-le-STRETCH (
  shift-stretch-reads.Asked,
  shift-stretch-reads.Learnt,
  shift-below t,
  shift.Post,
) (shift-at t) shift.Post
shift-same-length-4 t c = c.shift_stretch.auto.out

shift-returns : (t : ℕ) → shift-lts.Need-returns-then-path-le-STRETCH (
  shift-stretch-reads.Asked,
  shift-stretch-reads.Learnt,
  shift-below t,
  shift.Post,
) (shift-at t) shift.Post
shift-returns t c = search rules

shift-sub-shift : (t : ℕ) → shift-lts.Need-overflow_sub-shift (
  shift-stretch-reads.Asked,
  shift-stretch-reads.Learnt,
  shift-below t,
  shift.Post,
) (shift-at t) shift.Post
shift-sub-shift t c = search rules

shift-mul-shift : (t : ℕ) → shift-lts.Need-offset_bounds-path (
  shift-stretch-reads.Asked,
  shift-stretch-reads.Learnt,
  shift-below t,
  shift.Post,
) (shift-at t) shift.Post
shift-mul-shift t c = search rules

shift-sub-shift-2 : (t : ℕ) → shift-lts.Need-slice_bounds-shift-count (
  shift-stretch-reads.Asked,
  shift-stretch-reads.Learnt,
  shift-below t,
  shift.Post,
) (shift-at t) shift.Post
shift-sub-shift-2 t c = search rules

shift-part-shift-start : (t : ℕ) → shift-lts.Need-slice_bounds-shift-start (
  shift-stretch-reads.Asked,
  shift-stretch-reads.Learnt,
  shift-below t,
  shift.Post,
) (shift-at t) shift.Post
shift-part-shift-start t c = search rules

shift-part-shift-end : (t : ℕ) → shift-lts.Need-slice_bounds-shift-end (
  shift-stretch-reads.Asked,
  shift-stretch-reads.Learnt,
  shift-below t,
  shift.Post,
) (shift-at t) shift.Post
shift-part-shift-end t c = search rules

shift-shift-requires : (t : ℕ) → shift-lts.Need-shift-m-requires (
  shift-stretch-reads.Asked,
  shift-stretch-reads.Learnt,
  shift-below t,
  shift.Post,
) (shift-at t) shift.Post
shift-shift-requires t c κs =
    let p = c.requires.1 in
    let more = c.if-path-le-STRETCH.false in (
      rw rest-length (omega (arith, more, c.requires.0)),
      record {
        most = p.most;
        empty_size = p.empty_size;
        counts = rw rest-length (omega (arith, p.counts));
        placed = p.placed;
        can_shift = can-rest _ p.can_shift _ (omega (arith, more));
      },
    )

shift-slice-aggregate-shift-stretch : (t : ℕ) → shift-lts.Need-slice_bounds-shift_stretch-end (
  shift-stretch-reads.Asked,
  shift-stretch-reads.Learnt,
  shift-below t,
  shift.Post,
) (shift-at t) shift.Post
shift-slice-aggregate-shift-stretch t c =
    sym (length-take-le _ c.args.path.now (omega (arith, c.if-path-le-STRETCH.false)))

shift-shift-stretch-requires-2 : (t : ℕ) → shift-lts.Need-shift_stretch-requires-2 (
  shift-stretch-reads.Asked,
  shift-stretch-reads.Learnt,
  shift-below t,
  shift.Post,
) (shift-at t) shift.Post
shift-shift-stretch-requires-2 t c κs =
    let p = c.requires.1 in
    let more = c.if-path-le-STRETCH.false in
    let m = c.shift-m in
    let e : length m.new.standing ≡ length c.args.standing.now = m.auto.standing in
    let f : length m.new.empty ≡ length c.args.empty.now = m.auto.empty in
    let stretch : List ℕ = take 16 c.args.path.now in
    let can : CanShift (length m.new.standing) m.new.placement stretch = rw e (can-stretch _ p.can_shift _ (omega (arith, more)) m.ensures) in
    let long : length stretch ≡ 16 = length-take-le 16 c.args.path.now (omega (arith, more)) in
    let fits = stretch-fits _ p.can_shift _ (omega (arith, more)) m.ensures in
    record {
      most = omega (arith, p.most, e);
      empty_size = omega (arith, p.empty_size, f);
      counts = omega (arith, fits, long, more, p.counts);
      placed = rw e m.ensures.placed;
      can_shift = can;
    }

shift-same-length-5 : (t : ℕ) → shift-lts.Need-shape_of-placement (
  shift-stretch-reads.Asked,
  shift-stretch-reads.Learnt,
  shift-below t,
  shift.Post,
) (shift-at t) shift.Post
shift-same-length-5 t c = c.shift_stretch-2.auto.placement ∙ c.shift-m.auto.placement

shift-same-length-6 : (t : ℕ) → shift-lts.Need-shape_of-standing (
  shift-stretch-reads.Asked,
  shift-stretch-reads.Learnt,
  shift-below t,
  shift.Post,
) (shift-at t) shift.Post
shift-same-length-6 t c = c.shift_stretch-2.auto.standing ∙ c.shift-m.auto.standing

shift-same-length-7 : (t : ℕ) → shift-lts.Need-shape_of-empty (
  shift-stretch-reads.Asked,
  shift-stretch-reads.Learnt,
  shift-below t,
  shift.Post,
) (shift-at t) shift.Post
shift-same-length-7 t c = c.shift_stretch-2.auto.empty ∙ c.shift-m.auto.empty

shift-same-length-8 : (t : ℕ) → shift-lts.Need-shape_of-out (
  shift-stretch-reads.Asked,
  shift-stretch-reads.Learnt,
  shift-below t,
  shift.Post,
) (shift-at t) shift.Post
shift-same-length-8 t c = c.shift_stretch-2.auto.out ∙ c.shift-m.auto.out

shift-returns-2 : (t : ℕ) → shift-lts.Need-returns (
  shift-stretch-reads.Asked,
  shift-stretch-reads.Learnt,
  shift-below t,
  shift.Post,
) (shift-at t) shift.Post
shift-returns-2 t c =
    let p = c.requires.1 in
    let more = c.if-path-le-STRETCH.false in
    let m = c.shift-m in
    let e : length m.new.standing ≡ length c.args.standing.now = m.auto.standing in
    shift-both c.args.path.now p.can_shift _ (omega (arith, more)) m.ensures (rw e at c.shift_stretch-2.ensures)

pub +shift_spec : {M : Type 1} → statement M
+shift_spec = close μ-shift λ t. shift-lts.spec (
  shift-stretch-reads.Asked,
  shift-stretch-reads.Learnt,
  shift-below t,
  shift.Post,
)
    (shift-at t)
    shift.Post
    (shift-shift-stretch-requires t)
    (shift-same-length t)
    (shift-same-length-2 t)
    (shift-same-length-3 t)
    (shift-same-length-4 t)
    (shift-returns t)
    (shift-sub-shift t)
    (shift-mul-shift t)
    (shift-sub-shift-2 t)
    (shift-part-shift-start t)
    (shift-part-shift-end t)
    (shift-shift-requires t)
    (shift-slice-aggregate-shift-stretch t)
    (shift-shift-stretch-requires-2 t)
    (shift-same-length-5 t)
    (shift-same-length-6 t)
    (shift-same-length-7 t)
    (shift-same-length-8 t)
    (shift-returns-2 t)
