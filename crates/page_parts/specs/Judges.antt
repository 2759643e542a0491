-- What a page says of a program: what its line in the report says after its number (docs/OUTPUT.md, The page of `page`).
use Rattle.std.specs.Prelude.{ℕ, List, ◌++◌, codes}
use Rattle.std.specs.Fmt.{decimal}
use Rattle.report.specs.declared.head.ProgramHead.{ProgramHead}
use Rattle.report.specs.Report.{steps_text}
use Rattle.page_parts.specs.declared.judge.PageJudge.{PageJudge}
use Rattle.page_parts.specs.declared.judge.PageJudge.TheVariants as judging
use Rattle.page_parts.specs.Html.{html}

-- of a checker how many slots it has, the most steps of a run, and how many slots are guarded where some may be
unfoldable pub checker_text : ProgramHead → List ℕ
checker_text p = codes "slots " ++ decimal p.slots ++ codes " " ++ steps_text p

-- of a program that is given images as files its words
unfoldable pub outside_text : List ℕ → List ℕ
outside_text words = codes "outside " ++ html words

abbrev pub judge_text : PageJudge → List ℕ
judge_text (judging.Checker p) = checker_text p
judge_text (judging.Outside words) = outside_text words.now
