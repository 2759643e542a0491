use Rattle.std.proofs.Common.{rules, ◌≡◌, map, [], ◌∷◌, ◌++◌, replicate}
use Rattle.commands.specs.declared.stored.TheConstants.{STORED_SUPER, STORED_PROGRAM}
use Rattle.commands.proofs.OwnRun.{log_is, programs_are}
use Rattle.commands.proofs.stored.stored_files.Goals as goal

pub returns-clause-log : goal.returns-clause-log
returns-clause-log c =
    let made : c.resize.new.self.items ≡ STORED_SUPER ++ replicate 480 0 = search rules in rw made log_is

pub returns-clause-programs : goal.returns-clause-programs
returns-clause-programs c =
    let made : map (λ f. f.items) c.push.new.self.items ≡ STORED_PROGRAM ∷ [] = search rules in rw made programs_are
