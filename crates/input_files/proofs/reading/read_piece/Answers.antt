use Rattle.std.proofs.Common.{◌∙◌, ap, option_map}
use Rattle.input_files.specs.declared.kind.FileKind.TheVariants as kinds
use Rattle.input_files.specs.Kinds.{read_of}
use Rattle.input_files.proofs.Counting.{front_held}
use Rattle.input_files.proofs.reading.read_piece.Goals as goal

pub returns-in-Lines-clause-held : goal.returns-in-Lines-clause-held
returns-in-Lines-clause-held g c = rw c.in-Lines.is
    (front_held c.read_whole-in-Lines.result (g.F.Read.remaining c.args.file.now) (λ piece. option_map (λ b. b.items) piece.bytes) (λ piece. piece.length) c.most_read-most.result
    (read_of kinds.Lines) (c.most_read-most.ensures ∙ ap read_of c.in-Lines.is) c.read_whole-in-Lines.ensures.held)

pub returns-in-Report-clause-held : goal.returns-in-Report-clause-held
returns-in-Report-clause-held g c = rw c.in-Report.is
    (front_held c.read_whole-in-Report.result (g.F.Read.remaining c.args.file.now) (λ piece. option_map (λ b. b.items) piece.bytes) (λ piece. piece.length) c.most_read-most.result
    (read_of kinds.Report) (c.most_read-most.ensures ∙ ap read_of c.in-Report.is) c.read_whole-in-Report.ensures.held)
