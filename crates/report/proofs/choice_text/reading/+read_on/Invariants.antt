use Rattle.report.proofs.choice_text.reading.+read_on.Given as goal

abbrev pub decreases-read_on : goal.decreases-read_on
decreases-read_on l = l.left
