use Rattle.std.proofs.Common.{rules, ◌∙◌, string_bytes, sym}
use Rattle.input_files.proofs.Files.{all_names, inputs_read, names_before, names_read, start_read}
use Rattle.input_files.proofs.inputs.Inputs.read.Goals as goal

pub loop-name-init : goal.loop-name-init
loop-name-init g c = (start_read _ _ _ _ _ (search rules) (search rules), search rules)

pub loop-name-preserved : goal.loop-name-preserved
loop-name-preserved g c =
    let before = c.loop-name.invariant in
    let read = c.in_ok-rest.ensures in (
      names_read string_bytes _ _ _ _ c.args.names.now c.loop-name.name-index c.name-item.result _ _ _
          (read.files _ (names_before string_bytes c.args.names.now c.loop-name.name-index c.loop-name-test.true ∙ sym before.1) before.0)
          c.loop-name-test.true c.name-item.is (search rules),
      search rules,
    )

pub returns-clause-read : goal.returns-clause-read
returns-clause-read g c =
    let before = c.loop-name.invariant in
    let based = c.in_ok-read_base.ensures in
    inputs_read _ _ _ _ _ _ _ _ _ c.loop-name.inputs _ before.0 based.base (all_names string_bytes c.args.names.now c.loop-name.name-index (search rules)) based.files based.lengths
