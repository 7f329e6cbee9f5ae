use Prim.Native.Nat.{ℕ, ◌+◌, ◌-◌, ◌*◌, ◌/◌, ◌≤◌, ◌<◌, min}
use mathlib.Core.Path.{◌≡◌, refl, sym, ap, ◌∙◌}
use mathlib.Core.Bool.{Bool}
use native.Mathlib.Omega.{arith}
use borrow.Author.Tests.{ltb-false}
use lib.ListN.{get_or}
use Rattle.bits.specs.Packed.{Packed}
use Rattle.rules.specs.Pattern.{Pattern}
use Rattle.rules.specs.Occurrence.{occurs}
use Rattle.matcher.specs.Asked.{text_in, pattern_in}
use Rattle.rules.proofs.Occurrence.{places_some}
use Rattle.matcher.proofs.Compared.{compared_place}
use Rattle.matcher.proofs.Writing.{writing_none}
use Rattle.rules.proofs.Skip.{reaches_byte, contains_byte}
use Rattle.skip.proofs.SkipPlaces.{byte_is, walk_start, walk_by, walk_found, walk_end}
use Rattle.skip.proofs.SkipStep.{below_top, link_inside, link_outside, written_more, skip_full, skip_whole}
use Rattle.skip.proofs.first_step.Given.{Over}
use Rattle.skip.proofs.first_step.Goals as goal
use Rattle.skip.proofs.first_step.Goals.{After-cut-stop, After-place_at-top, After-same, In-loop-links, Start, then-same+else-list-hits, else-same}

from_mark : (p j x : ℕ) → j + p ≤ x → p ≤ x - j
from_mark p j x h = omega arith

up_to : (p j x : ℕ) → j ≤ x - p → p ≤ x → j + p ≤ x
up_to p j x h g = omega arith

-- text and pattern
abbrev text : (g : Over) → Start g → Packed
text g c = text_in c.args.by.now.search.now.query

abbrev pattern : (g : Over) → Start g → Pattern
pattern g c = pattern_in c.args.by.now.search.now.query

-- the byte
abbrev last : (g : Over) → Start g → ℕ
last g c = (c.args.s.0 + c.args.by.now.search.now.query.pattern.m) / 8 - 1

long : (g : Over) (c : Start g) → 15 ≤ c.args.by.now.search.now.query.pattern.m
long g c = ltb-false c.args.by.now.search.now.query.pattern.m 15 c.args.by.now.search.now.ready.pattern.fit

-- all places of the step contain the byte
covers : (g : Over) (c : Start g) → 8 * last g c + 8 ≤ c.args.s.0 + c.args.by.now.search.now.query.pattern.m
covers g c = contains_byte (pattern g c) c.args.s.0 (long g c) c.args.s.0 (omega arith) (reaches_byte (pattern g c) c.args.s.0 (long g c))

-- one more than the byte's first bit
top_is : (g : Over) (c : After-place_at-top g) → c.place_at-top.result.0 ≡ 8 * ((c.args.s.0 + c.args.by.now.search.now.query.pattern.m) / 8 - 1) + 1
top_is g c = c.place_at-top.ensures ∙ ap (λ (n : ℕ). 8 * n + 1) c.last_byte-b.ensures

-- the mark that is left is cut at E
cut_is : (g : Over) (c : After-cut-stop g)
    → c.cut-stop.result ≡ min (8 * ((c.args.s.0 + c.args.by.now.search.now.query.pattern.m) / 8 - 1) + 1) (c.args.by.now.search.now.query.n - c.args.by.now.search.now.query.pattern.m + 1)
cut_is g c =
    let top_is : c.place_at-top.result.0 ≡ 8 * ((c.args.s.0 + c.args.by.now.search.now.query.pattern.m) / 8 - 1) + 1 = c.place_at-top.ensures ∙ ap (λ (n : ℕ). 8 * n + 1) c.last_byte-b.ensures in
    rw top_is at c.cut-stop.ensures

-- the link's place is below E
inside : (g : Over) (c : In-loop-links g)
    → 8 * ((c.args.s.0 + c.args.by.now.search.now.query.pattern.m) / 8 - 1) + 1 - c.loop-links.links.first < 1 + c.args.by.now.search.now.query.n - c.args.by.now.search.now.query.pattern.m
inside g c =
    let last = (c.args.s.0 + c.args.by.now.search.now.query.pattern.m) / 8 - 1 in
    let top_is : c.place_at-top.result.0 ≡ 8 * ((c.args.s.0 + c.args.by.now.search.now.query.pattern.m) / 8 - 1) + 1 = c.place_at-top.ensures ∙ ap (λ (n : ℕ). 8 * n + 1) c.last_byte-b.ensures in
    let cut_is : c.cut-stop.result ≡ min (8 * ((c.args.s.0 + c.args.by.now.search.now.query.pattern.m) / 8 - 1) + 1) (c.args.by.now.search.now.query.n - c.args.by.now.search.now.query.pattern.m + 1) = rw top_is at c.cut-stop.ensures in
    let l = c.loop-links in
    link_inside c.args.by.now.search.now.query.n c.args.by.now.search.now.query.pattern.m last c.args.s.0 l.links.first _ c.args.by.now.search.now.ready.inside cut_is l.invariant.0 (rw top_is at c.loop-links-test.true)

-- the comparison's answer
stands_at : (g : Over) (c : After-same g) (x : Bool) → c.same.result ≡ x
    → occurs (text_in c.args.by.now.search.now.query) (pattern_in c.args.by.now.search.now.query) (8 * ((c.args.s.0 + c.args.by.now.search.now.query.pattern.m) / 8 - 1) + 1 - c.loop-links.links.first) ≡ x
stands_at g c x e =
    let last = (c.args.s.0 + c.args.by.now.search.now.query.pattern.m) / 8 - 1 in
    let top_is : c.place_at-top.result.0 ≡ 8 * ((c.args.s.0 + c.args.by.now.search.now.query.pattern.m) / 8 - 1) + 1 = c.place_at-top.ensures ∙ ap (λ (n : ℕ). 8 * n + 1) c.last_byte-b.ensures in
    let cut_is : c.cut-stop.result ≡ min (8 * ((c.args.s.0 + c.args.by.now.search.now.query.pattern.m) / 8 - 1) + 1) (c.args.by.now.search.now.query.n - c.args.by.now.search.now.query.pattern.m + 1) = rw top_is at c.cut-stop.ensures in
    let inside : 8 * ((c.args.s.0 + c.args.by.now.search.now.query.pattern.m) / 8 - 1) + 1 - c.loop-links.links.first < 1 + c.args.by.now.search.now.query.n - c.args.by.now.search.now.query.pattern.m = let l = c.loop-links in link_inside c.args.by.now.search.now.query.n c.args.by.now.search.now.query.pattern.m last c.args.s.0 l.links.first _ c.args.by.now.search.now.ready.inside cut_is l.invariant.0 (rw top_is at c.loop-links-test.true) in
    compared_place _ _ _ _ _ x (rw top_is at c.same.ensures) e inside

some : (g : Over) (c : In-loop-links g) → 0 < c.loop-links.links.first
some g c = omega (arith, c.loop-links-test.true)

pub loop-links-init : goal.loop-links-init
loop-links-init g c =
    let a = c.args in
    let b = last g (goal.at.loop-links-init g c).Start in
    let e = c.first-links.ensures in
    let top = rw (top_is g (goal.at.loop-links-init g c).After-place_at-top) at e.0 in
    let shown = rw (top_is g (goal.at.loop-links-init g c).After-place_at-top, c.last_byte-b.ensures) at e.1 in
    let fits : get_or a.by.now.search.now.query.text.now c.last_byte-b.result.0 0 < 256 = omega arith in
    let byte = byte_is a.by.now.search.now.query.text.now b (rw c.last_byte-b.ensures at fits) in
    let within = up_to a.s.0 c.first-links.result.first (8 * b + 1) top (omega (arith, reaches_byte (pattern g (goal.at.loop-links-init g c).Start) a.s.0 (long g (goal.at.loop-links-init g c).Start))) in (
      within,
      e.2,
      rw (walk_start (text g (goal.at.loop-links-init g c).Start) (pattern g (goal.at.loop-links-init g c).Start) b a.s.0 c.first-links.result.first (covers g (goal.at.loop-links-init g c).Start) within (rw byte at shown)) (writing_none a.list.now 0 (omega arith)),
    )

pub returns-then-list-hits : goal.returns-then-list-hits
returns-then-list-hits g c =
    let l = c.loop-links in
    let a = c.args in
    let x = 8 * last g (goal.at.returns-then-list-hits g c).Start + 1 in
    let found = stands_at g (goal.at.returns-then-list-hits g c).After-same _ c.if-same.true in
    rw (c.no_cell.ensures.0, c.no_cell.ensures.2) (
      rw (top_is g (goal.at.returns-then-list-hits g c).After-place_at-top)
          (skip_full (text g (goal.at.returns-then-list-hits g c).Start) (pattern g (goal.at.returns-then-list-hits g c).Start) a.s.0 a.list.now 0 l.list l.hits (x - l.links.first) l.invariant.2 (long g (goal.at.returns-then-list-hits g c).Start) (omega arith) (from_mark a.s.0 l.links.first x l.invariant.0)
          (below_top x l.links.first (some g (goal.at.returns-then-list-hits g c).In-loop-links) (omega (arith, l.invariant.0))) found c.if-list-hits.true),
      c.no_cell.ensures.1,
    )

pub loop-links-preserved : goal.loop-links-preserved
loop-links-preserved g c =
    let l = c.loop-links in
    let a = c.args in
    let t = text g (goal.at.loop-links-preserved g c).Start in
    let w = pattern g (goal.at.loop-links-preserved g c).Start in
    let b = last g (goal.at.loop-links-preserved g c).Start in
    let j = l.links.first in
    let e = c.next-links.ensures in
    let fits : get_or a.by.now.search.now.query.text.now c.last_byte-b.result.0 0 < 256 = omega arith in
    let byte = byte_is a.by.now.search.now.query.text.now b (rw c.last_byte-b.ensures at fits) in
    let link = rw (c.last_byte-b.ensures, byte) at e.1 in (
      omega (arith, e.0, l.invariant.0),
      e.2,
      elim c.if-same.branch [
        | then-same+else-list-hits w' ↦
            rw (w'.list-is, w'.hits-is, top_is g (goal.at.loop-links-preserved g c).After-place_at-top)
            (written_more t w a.s.0 a.list.now 0 l.list l.hits (8 * b + 1 - j) l.invariant.2 _
            (walk_found t w b a.s.0 j (covers g (goal.at.loop-links-preserved g c).Start) l.invariant.0 _ e.0 link (stands_at g (goal.at.loop-links-preserved g c).After-same _ w'.if-same.true)) w'.if-list-hits.false)
        | else-same w' ↦
            rw (w'.list-is, w'.hits-is, walk_by t w b a.s.0 j (covers g (goal.at.loop-links-preserved g c).Start) l.invariant.0 _ e.0 link (stands_at g (goal.at.loop-links-preserved g c).After-same _ w'.if-same.false)) l.invariant.2
      ],
    )

pub returns : goal.returns
returns g c =
    let l = c.loop-links in
    let a = c.args in
    let t = text g (goal.at.returns g c).Start in
    let w = pattern g (goal.at.returns g c).Start in
    let b = last g (goal.at.returns g c).Start in
    let out = link_outside a.by.now.search.now.query.n a.by.now.search.now.query.pattern.m b a.s.0 l.links.first _ c.args.by.now.search.now.ready.inside (cut_is g (goal.at.returns g c).After-cut-stop) l.invariant.0 (rw (top_is g (goal.at.returns g c).After-place_at-top) at c.loop-links-test.false) in (
      skip_whole t w a.s.0 a.list.now 0 l.list l.hits (8 * b + 1 - l.links.first) l.invariant.2 _ (long g (goal.at.returns g c).Start)
          (walk_end t w b a.s.0 l.links.first (covers g (goal.at.returns g c).Start) l.invariant.0 out)
          (cut_is g (goal.at.returns g c).After-cut-stop ∙ ap (min (8 * b + 1)) (sym (places_some t w c.args.by.now.search.now.ready.inside))),
      refl,
    )
