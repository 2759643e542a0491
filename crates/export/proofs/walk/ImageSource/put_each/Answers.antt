use Rattle.std.proofs.Common.{ℕ, ◌++◌, List, nat_eq, map, string_bytes, subst, ◌∙◌, ap, arith}
use Rattle.std.specs.HashMap.{get}
use Rattle.std.specs.List.{flat_map}
use Rattle.images.specs.Keys.{with_content}
use Rattle.images.specs.Views.{sectors_of}
use Rattle.export.specs.Export.{AskedValue, record_text}
use Rattle.export.specs.Kept.{IsAsked, IsKept}
use Rattle.export.proofs.Streaming.{puts_nothing, puts_empty}
use Rattle.export.proofs.Putting.{no_images, puts_image, puts_images}
use Rattle.export.proofs.Walking.{next_there}
use Rattle.export.proofs.walk.ImageSource.put_each.Goals as goal

pub returns-then-count-eq0-clause-text : goal.returns-then-count-eq0-clause-text
returns-then-count-eq0-clause-text g c =
    let from = ap (λ (b : AskedValue). b.from) c.self.view_is in
    let to = ap (λ (b : AskedValue). b.to) c.self.view_is in
    puts_empty _ _ _ _ (no_images c.args.self.now c.count-count.result (omega (arith, from, to, c.count-count.ensures)) c.if-count-eq0.true)

pub loop-place-init : goal.loop-place-init
loop-place-init g c = (
  puts_nothing _ _ _,
  subst (λ (b : AskedValue). IsKept b 0 c.new-kept.result.shown c.new-kept.result.near c.new-kept.result.sum c.new-kept.result.fresh (get nat_eq c.new-kept.result.places)) c.self.view_is
      c.new-kept.ensures,
  λ below. c.choice-choice.ensures,
)

pub returns-then-is_closed-clause-part : goal.returns-then-is_closed-clause-part
returns-then-is_closed-clause-part g c =
    let from = ap (λ (b : AskedValue). b.from) c.self.view_is in
    let to = ap (λ (b : AskedValue). b.to) c.self.view_is in
    (c.loop-place.place, omega (arith, from, to, c.count-count.ensures, c.loop-place-test.true), c.loop-place.invariant.0)

pub returns-in-Err-clause-part : goal.returns-in-Err-clause-part
returns-in-Err-clause-part g c =
    let from = ap (λ (b : AskedValue). b.from) c.self.view_is in
    let to = ap (λ (b : AskedValue). b.to) c.self.view_is in
    (c.loop-place.place, omega (arith, from, to, c.count-count.ensures, c.loop-place-test.true), c.loop-place.invariant.0)

pub loop-place-preserved : goal.loop-place-preserved
loop-place-preserved g c =
    let a : AskedValue = c.args.self.now in
    let k : ℕ = c.loop-place.place in
    let P : AskedValue → Type 0 = λ b. IsAsked b in
    let from = ap (λ (b : AskedValue). b.from) c.self.view_is in
    let to = ap (λ (b : AskedValue). b.to) c.self.view_is in
    let near : _ = sectors_of c.tell.new.kept.near in
    let text = ap (λ (l : List ℕ). l ++ flat_map record_text (map (with_content near) c.as_slice.result.now)) c.as_bytes-line.ensures.value
    ∙ ap (λ (ns : List ℕ). string_bytes c.tell.new.scratch.line ++ flat_map record_text (map (with_content near) ns)) c.as_slice.ensures.value ∙ c.in-Ok.ensures.text in (
      puts_image a k _ _ _ _ c.loop-place.invariant.0 text c.put_new.ensures,
      c.in-Ok.ensures.kept,
      next_there a c.plan.result.now c.bound.result c.tears.result k c.count-count.result c.next-moved.result c.loop-place.choice c.next-moved.new.choice
          (c.plan.ensures.value ∙ ap (λ (b : AskedValue). b.plan) c.self.view_is) (c.bound.ensures ∙ ap (λ (b : AskedValue). b.bound) c.self.view_is)
          (c.tears.ensures ∙ ap (λ (b : AskedValue). b.tears) c.self.view_is) (subst P c.self.view_is c.plan.ensures.asked)
          (omega (arith, from, to, c.count-count.ensures)) (c.loop-place.invariant.2 c.loop-place-test.true) c.next-moved.ensures.moved c.next-moved.ensures.last,
    )

pub returns-clause-text : goal.returns-clause-text
returns-clause-text g c =
    let from = ap (λ (b : AskedValue). b.from) c.self.view_is in
    let to = ap (λ (b : AskedValue). b.to) c.self.view_is in
    puts_images c.args.self.now c.loop-place.place _ _ (omega (arith, from, to, c.count-count.ensures, c.loop-place-test.false, c.loop-place.auto.place-end)) c.loop-place.invariant.0
