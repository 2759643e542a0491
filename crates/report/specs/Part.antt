-- The text of a part of a run (docs/OUTPUT.md, The text of a part).
use Rattle.std.specs.Prelude.{ℕ, ◌-◌, List, ◌++◌, codes}
use Rattle.std.specs.Fmt.{decimal}
use Rattle.report.specs.Line.{FailingLine}
use Rattle.report.specs.declared.span.Span.{Span}
use Rattle.report.specs.Report.{HeadValue, options_text, findings_text}

-- the first line, and which images of which run the text is of
unfoldable pub span_text : Span → List ℕ
span_text s =
    codes "crash part 1\npart " ++ decimal s.from ++ codes ".." ++ decimal s.to ++ codes " of " ++ decimal s.images ++ codes " inputs " ++ decimal s.inputs ++ codes "\n"

-- the text of the images of a span, by what stands at the head of the run's report and by the failing lines of these images
abbrev pub span_report : HeadValue → Span → List FailingLine → List ℕ
span_report h s ls = span_text s ++ (options_text h ++ findings_text h.first (s.to - s.from) ls)
