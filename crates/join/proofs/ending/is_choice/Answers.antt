use Rattle.std.proofs.Common.{◌≤◌, List, length, rules, sym, subst}
use Rattle.choices.specs.declared.name.Name.{Name}
use Rattle.join.specs.Endings.{AreNamesAt}
use Rattle.join.proofs.Endings.{like, never}
use Rattle.join.proofs.Choosing.{choice_found, names_within, no_choice}
use Rattle.join.proofs.ending.is_choice.Goals as goal

pub returns-in-Some : goal.returns-in-Some
returns-in-Some c =
    let said = rw c.in-Some.is at c.in_ok-names.ensures.found in
    let back = rw c.in-Some.is at c.in_ok-names.ensures.back in
    let same = c.as_slice.ensures.value in
    let few : length c.in-Some.names.items ≤ 3 = search rules in
    like c.are_names_at.result c.are_names_at.ensures
    (λ at. choice_found c.args.head.now c.args.cut c.args.by c.args.text.now c.in-Some.names.items c.requires said few (subst (λ (ns : List Name). AreNamesAt c.args.head.now c.args.cut ns) same at))
    (λ choice. subst (λ (ns : List Name). AreNamesAt c.args.head.now c.args.cut ns) (sym same) (names_within c.args.head.now c.args.cut c.args.by c.args.text.now c.in-Some.names.items c.requires back choice))

pub returns-in-None : goal.returns-in-None
returns-in-None c = never (λ choice. no_choice c.args.head.now c.args.cut c.args.by c.args.text.now c.requires (rw c.in-None.is at c.in_ok-names.ensures.found) choice)
