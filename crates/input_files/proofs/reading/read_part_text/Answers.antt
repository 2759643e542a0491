use Rattle.std.proofs.Common.{◌≡◌, ◌∙◌, ◌-◌, min, rules, sym, ap, subst, arith}
use Rattle.input_files.specs.PartTexts.{is_begun}
use Rattle.std.specs.Io.KnownBytes.{Consumes}
use Rattle.input_files.proofs.Reaching.{nothing_read}
use Rattle.input_files.proofs.PartTexts.{other_read, rest_read}
use Rattle.input_files.proofs.reading.read_part_text.Goals as goal

pub returns-then-not-is_begun : goal.returns-then-not-is_begun
returns-then-not-is_begun g c =
    let read = c.in_ok-read_on.ensures in
    let given = read.read _ (subst (Consumes _ _) (sym c.new-bytes.ensures.items) (nothing_read _)) in
    let least : c.min.result ≡ min c.args.most 13 = search rules in
    let room = read.room in
    other_read _ _ _ c.args.most _ given (omega (arith, room, least)) (λ t. read.there t ∙ least) read.end (ap is_begun (sym c.as_slice.ensures.value) ∙ sym c.is_begun.ensures ∙ c.if-not-is_begun.true)

pub returns : goal.returns
returns g c =
    let read = c.in_ok-read_on.ensures in
    let given = read.read _ (subst (Consumes _ _) (sym c.new-bytes.ensures.items) (nothing_read _)) in
    let least : c.min.result ≡ min c.args.most 13 = search rules in
    let rest : c.saturating_sub-rest.result ≡ c.args.most - 13 = search rules in
    let room = read.room in
    rest_read _ _ _ _ c.args.most _ _ given (omega (arith, room, least)) (λ t. read.there t ∙ least) read.end
    (ap is_begun (sym c.as_slice.ensures.value) ∙ sym c.is_begun.ensures ∙ c.if-not-is_begun.false) rest c.in_ok-read_more.ensures
