use Rattle.std.proofs.Common.{ℕ, ◌+◌, ◌++◌, ◌<◌, nat_eq, length, map, sym, subst, ◌∙◌, ap, arith}
use Rattle.std.proofs.lemmas.List.{length-map}
use Rattle.std.specs.HashMap.{get}
use Rattle.images.specs.Keys.{with_content}
use Rattle.images.specs.Views.{ViewValue, sectors_of}
use Rattle.export.specs.declared.walk.KeyPlace.{KeyPlace}
use Rattle.export.specs.Export.{AskedValue, head_text}
use Rattle.export.specs.Kept.{IsFound, firsts}
use Rattle.export.proofs.Walking.{cut_of, choice_is, free_new}
use Rattle.export.proofs.Keeping.{records_are}
use Rattle.export.proofs.Told.{new_told, same_told_text}
use Rattle.export.proofs.Putting.{new_line, no_records, none_inside}
use Rattle.export.proofs.walk.ImageSource.tell.Goals as goal

pub put_head-requires-clause-cut : goal.put_head-requires-clause-cut
put_head-requires-clause-cut c =
    let within = cut_of c.args.self.now c.args.place c.args.choice.now c.requires.choice in
    omega (arith, within, ap (λ (a : AskedValue). length a.plan.log.entries) c.self.view_is)

pub keep_same-requires-clause-same : goal.keep_same-requires-clause-same
unfolding IsFound
keep_same-requires-clause-same c =
    let P : KeyPlace → Type 0 = λ f. IsFound c.args.self.now c.args.place (get nat_eq c.args.kept.now.places) f in
    (subst P c.in-Same.is c.in_ok-found.ensures).0

pub keep_same-requires-clause-there : goal.keep_same-requires-clause-there
unfolding IsFound
keep_same-requires-clause-there c =
    let P : KeyPlace → Type 0 = λ f. IsFound c.args.self.now c.args.place (get nat_eq c.args.kept.now.places) f in
    (subst P c.in-Same.is c.in_ok-found.ensures).1

pub keep_new-requires-clause-free : goal.keep_new-requires-clause-free
unfolding IsFound
keep_new-requires-clause-free c =
    let P : KeyPlace → Type 0 = λ f. IsFound c.args.self.now c.args.place (get nat_eq c.args.kept.now.places) f in
    subst P c.in-Free.is c.in_ok-found.ensures

pub returns-in_ok-keep_same-in-Same-clause-text : goal.returns-in_ok-keep_same-in-Same-clause-text
unfolding IsFound
returns-in_ok-keep_same-in-Same-clause-text c =
    let a : AskedValue = c.args.self.now in
    let i : ℕ = c.args.place in
    let P : KeyPlace → Type 0 = λ f. IsFound a i (get nat_eq c.args.kept.now.places) f in
    let head = c.in_ok-put_head.ensures ∙ ap (λ bs. bs ++ head_text c.self.inside.asked.now i c.args.choice.now) c.clear.ensures.bytes
    ∙ ap (λ (b : AskedValue). head_text b i c.args.choice.now) c.self.view_is ∙ ap (head_text a i) (choice_is a i c.args.choice.now c.requires.choice) in
    let from = c.from.ensures.value ∙ ap (λ (b : AskedValue). b.from) c.self.view_is in
    no_records _ _ _ c.clear-2.ensures.items
    ∙ c.in_ok-end_same-in-Same.ensures
    ∙ same_told_text a i c.in-Same.first _ (c.from.result + c.from-in-Same.result) head (omega (arith, from, c.from-in-Same.ensures)) (subst P c.in-Same.is c.in_ok-found.ensures).0

pub returns-in_ok-keep_same-in-Same-clause-inside : goal.returns-in_ok-keep_same-in-Same-clause-inside
returns-in_ok-keep_same-in-Same-clause-inside c = none_inside _ _ c.clear-2.ensures.items

pub returns-in_ok-keep_new-in-Free-clause-text : goal.returns-in_ok-keep_new-in-Free-clause-text
unfolding IsFound
returns-in_ok-keep_new-in-Free-clause-text c =
    let a : AskedValue = c.args.self.now in
    let i : ℕ = c.args.place in
    let P : KeyPlace → Type 0 = λ f. IsFound a i (get nat_eq c.args.kept.now.places) f in
    let head = c.in_ok-put_head.ensures ∙ ap (λ bs. bs ++ head_text c.self.inside.asked.now i c.args.choice.now) c.clear.ensures.bytes
    ∙ ap (λ (b : AskedValue). head_text b i c.args.choice.now) c.self.view_is ∙ ap (head_text a i) (choice_is a i c.args.choice.now c.requires.choice) in
    let records = records_are a i c.args.kept.now.shown c.in_ok-next.next.image c.put_differing.new.numbers.items c.requires.kept.log c.in_ok-next.ensures.log
    c.requires.kept.device c.in_ok-next.ensures.device c.in_ok-put_differing-in-Free.ensures in
    let near = ap (λ (v : ViewValue). map (with_content (sectors_of v)) c.put_differing.new.numbers.items) c.in_ok-keep_new-in-Free.ensures.near in
    new_line _ _ _ (map (with_content (sectors_of c.keep_new.new.kept.near)) c.put_differing.new.numbers.items) c.in_ok-end_new-in-Free.ensures
    (omega (arith, c.len.ensures, length-map c.put_differing.new.numbers.items (with_content (sectors_of c.keep_new.new.kept.near))))
    ∙ new_told a i _ (map (with_content (sectors_of c.keep_new.new.kept.near)) c.put_differing.new.numbers.items) head (near ∙ records.told)
    (free_new a i c.in-Free.key (firsts (get nat_eq c.args.kept.now.places)) c.requires.kept.held.index (subst P c.in-Free.is c.in_ok-found.ensures))

pub returns-in_ok-keep_new-in-Free-clause-inside : goal.returns-in_ok-keep_new-in-Free-clause-inside
returns-in_ok-keep_new-in-Free-clause-inside c = λ k n at.
    let records = records_are c.args.self.now c.args.place c.args.kept.now.shown c.in_ok-next.next.image c.put_differing.new.numbers.items c.requires.kept.log c.in_ok-next.ensures.log
    c.requires.kept.device c.in_ok-next.ensures.device c.in_ok-put_differing-in-Free.ensures in
    subst (λ (v : ViewValue). n < v.log.sectors) (sym c.in_ok-keep_new-in-Free.ensures.near) (records.inside k n at)
