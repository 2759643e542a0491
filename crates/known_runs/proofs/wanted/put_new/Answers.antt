use Rattle.std.proofs.Common.{ℕ, rules, ◌≡◌, length, List, ◌<◌, ◌∙◌, All, ap, sym, subst, ◌++◌}
use Rattle.std.specs.List.{flat_map}
use Rattle.std.proofs.Common.{map}
use Rattle.std.proofs.lemmas.Result.{on_ok_weaker}
use Rattle.images.specs.Keys.{with_content}
use Rattle.images.specs.Views.{sectors_of}
use Rattle.export.specs.Export.{record_text}
use Rattle.known_runs.proofs.Showing.{records_told, numbers_in}
use Rattle.known_runs.proofs.wanted.put_new.Goals as goal

pub put_records-requires : goal.put_records-requires
put_records-requires c =
    subst (λ (xs : List ℕ). All (λ n. n < c.args.image.now.log.sectors) xs) (sym c.as_slice.ensures.value)
    (numbers_in c.args.shown.now c.args.image.now c.put_differing.new.numbers.items c.requires c.in_ok-put_differing.ensures)

pub returns : goal.returns
returns c =
    let count : c.len.result ≡ length c.put_differing.new.numbers.items = search rules in
    on_ok_weaker c.put_records.result
    (λ put.
    records_told c.args.shown.now c.args.image.now c.put_differing.new.numbers.items c.args.out.now.items _ c.put_records.new.out.items _ _ c.len.result count c.requires c.in_ok-put_differing.ensures
    c.in_ok-end_new.ensures (c.in_ok-extend_from_slice.ensures.items ∙ ap (λ (xs : List ℕ). c.args.out.now.items ++ xs) c.as_bytes.ensures.value)
    (put ∙ ap (λ (xs : List ℕ). c.extend_from_slice.new.self.items ++ flat_map record_text (map (with_content (sectors_of c.args.image.now)) xs)) c.as_slice.ensures.value))
    c.put_records.ensures
