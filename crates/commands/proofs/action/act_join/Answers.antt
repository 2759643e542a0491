use Rattle.std.proofs.Common.{◌≡◌, ◌∙◌, ◌<◌, ◌≤◌, sym, ap, map, length, position, is_none, None, rules, arith}
use Rattle.request.proofs.Results.{both_ok, one_err}
use Rattle.commands.specs.Acting.{most_texts}
use Rattle.commands.proofs.Acts.{no_part_file, many_part_files, unread_part, part_memory, texts_read, texts_long, copies_long, parts_refused}
use Rattle.commands.proofs.action.act_join.Goals as goal

pub returns-then-is_empty-clause-refused : goal.returns-then-is_empty-clause-refused
returns-then-is_empty-clause-refused c =
    let none : length c.args.files.now.named.now ≡ 0 = search rules in
    no_part_file (λ f. f.items) c.args.files.now.named.now _ _ none c.unreadable.ensures

pub returns-then-files-gt-MOST_TEXTS-clause-refused : goal.returns-then-files-gt-MOST_TEXTS-clause-refused
returns-then-files-gt-MOST_TEXTS-clause-refused c =
    let many : most_texts < length c.args.files.now.named.now = search rules in
    many_part_files (λ f. f.items) c.args.files.now.named.now _ _ many c.join_refusal_of.ensures

pub returns-in-Some-clause-refused : goal.returns-in-Some-clause-refused
returns-in-Some-clause-refused c =
    let some : 0 < length c.args.files.now.named.now = search rules in
    let few : length c.args.files.now.named.now ≤ most_texts = search rules in
    unread_part (λ f. f.items) c.args.files.now.named.now c.in-Some.place _ _ some few (sym c.in-Some.ensures) c.unreadable-in-Some.ensures

pub join_texts-requires-clause-some : goal.join_texts-requires-clause-some
join_texts-requires-clause-some c =
    let some : 0 < length c.args.files.now.named.now = search rules in
    let readable : position is_none c.args.files.now.named.now ≡ None = sym c.first_unreadable.ensures ∙ c.in_default.is in
    let long = copies_long (λ f. f.items) c.args.files.now.named.now c.in-Ok.texts.items readable c.in-Ok.ensures in
    let same = ap length c.as_slice.ensures.value in
    omega (arith, some, long, same)

pub join_texts-requires-clause-few : goal.join_texts-requires-clause-few
join_texts-requires-clause-few c =
    let few : length c.args.files.now.named.now ≤ most_texts = search rules in
    let readable : position is_none c.args.files.now.named.now ≡ None = sym c.first_unreadable.ensures ∙ c.in_default.is in
    let long = copies_long (λ f. f.items) c.args.files.now.named.now c.in-Ok.texts.items readable c.in-Ok.ensures in
    let same = ap length c.as_slice.ensures.value in
    omega (arith, few, long, same)

pub returns-in-Ok-clause-answers : goal.returns-in-Ok-clause-answers
returns-in-Ok-clause-answers c =
    let some : 0 < length c.args.files.now.named.now = search rules in
    let few : length c.args.files.now.named.now ≤ most_texts = search rules in
    let readable : position is_none c.args.files.now.named.now ≡ None = sym c.first_unreadable.ensures ∙ c.in_default.is in
    let all = ap (map (λ f. f.items)) c.as_slice.ensures.value ∙ c.in-Ok.ensures in
    let long = texts_long (λ f. f.items) c.args.files.now.named.now (map (λ f. f.items) c.as_slice.result.now) readable all in
    both_ok c.join_texts.result _ _ _ c.join_texts.ensures.answers c.join_texts.ensures.answers
    (λ answer joins same. record {
      texts = map (λ f. f.items) c.as_slice.result.now;
      read = texts_read (λ f. f.items) c.args.files.now.named.now (map (λ f. f.items) c.as_slice.result.now) readable all;
      some = omega (arith, some, long);
      few = omega (arith, few, long);
      joins = joins;
    })

pub returns-in-Ok-clause-refused : goal.returns-in-Ok-clause-refused
returns-in-Ok-clause-refused c =
    let few : length c.args.files.now.named.now ≤ most_texts = search rules in
    let readable : position is_none c.args.files.now.named.now ≡ None = sym c.first_unreadable.ensures ∙ c.in_default.is in
    let all = ap (map (λ f. f.items)) c.as_slice.ensures.value ∙ c.in-Ok.ensures in
    one_err c.join_texts.result _ _ c.join_texts.ensures.refused
    (λ r why. parts_refused (λ f. f.items) c.args.files.now.named.now (map (λ f. f.items) c.as_slice.result.now) _ r few readable all why)

pub returns-in-Err-clause-refused : goal.returns-in-Err-clause-refused
returns-in-Err-clause-refused c =
    let some : 0 < length c.args.files.now.named.now = search rules in
    let readable : position is_none c.args.files.now.named.now ≡ None = sym c.first_unreadable.ensures ∙ c.in_default.is in
    part_memory (λ f. f.items) c.args.files.now.named.now _ _ some readable c.join_refusal_of-in-Err.ensures
