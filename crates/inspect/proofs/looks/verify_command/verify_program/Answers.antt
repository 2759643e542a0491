use Rattle.inspect.specs.Verifying.{no_text_memory}
use Rattle.inspect.proofs.Texts.{bytes_unverified, unverified}
use Rattle.inspect.proofs.looks.verify_command.verify_program.Goals as goal

pub returns-in-Err-clause-refused : goal.returns-in-Err-clause-refused
returns-in-Err-clause-refused c = rw c.bytes_refusal_of.ensures (bytes_unverified c.args.bytes.now _ c.in-Err.fault c.in-Err.ensures.fault)

pub returns-in-Err-verify_with-clause-refused : goal.returns-in-Err-verify_with-clause-refused
returns-in-Err-verify_with-clause-refused c =
    rw c.unaccepted_refusal_of.ensures (unverified c.args.bytes.now _ c.guards.result c.sectors.result _ c.in-Err-verify_with.unaccepted.fault c.guards.ensures.value c.sectors.ensures.value c.in-Ok.ensures.spelled c.in-Err-verify_with.ensures.refused)

pub returns-clause-refused : goal.returns-clause-refused
returns-clause-refused c = rw c.of_memory.ensures no_text_memory
