use Rattle.std.proofs.Common.{arith, inr, List, ℕ, subst, sym}
use Rattle.std.specs.Str.{IsUtf8}
use Rattle.notes.specs.SourceLines.{AreLines, NoLines, values_of}
use Rattle.notes.proofs.LinesOfC.{all_read, too_long, too_many, unread}
use Rattle.notes.proofs.sources.source_lines.Goals as goal

pub returns-then-text-gt-MOST_BYTES : goal.returns-then-text-gt-MOST_BYTES
returns-then-text-gt-MOST_BYTES c = subst (λ (t : List ℕ). NoLines t) c.in-Ok.ensures.cases.0 (inr (too_long c.in-Ok.text.now c.if-text-gt-MOST_BYTES.true))

pub returns-then-rest-gt0 : goal.returns-then-rest-gt0
returns-then-rest-gt0 c =
    let short = c.if-text-gt-MOST_BYTES.false in
    subst (λ (t : List ℕ). NoLines t) c.in-Ok.ensures.cases.0
    (inr (unread c.in-Ok.text.now c.in_ok-lines.rest.now c.in_ok-lines.lines.items (omega (arith, short)) c.if-rest-gt0.true (record { front = c.in_ok-lines.ensures.front }) c.in_ok-lines.ensures.end))

pub returns-then-len-gt-MOST_LINES : goal.returns-then-len-gt-MOST_LINES
returns-then-len-gt-MOST_LINES c =
    let short = c.if-text-gt-MOST_BYTES.false in
    let none = c.if-rest-gt0.false in
    let size = c.len.ensures in
    let many = c.if-len-gt-MOST_LINES.true in
    subst (λ (t : List ℕ). NoLines t) c.in-Ok.ensures.cases.0
    (inr (too_many c.in-Ok.text.now c.in_ok-lines.rest.now c.in_ok-lines.lines.items (omega (arith, short)) (omega (arith, size, many)) (record { front = c.in_ok-lines.ensures.front }) (omega (arith, none))))

pub returns : goal.returns
returns c =
    let short = c.if-text-gt-MOST_BYTES.false in
    let none = c.if-rest-gt0.false in
    let size = c.len.ensures in
    let few = c.if-len-gt-MOST_LINES.false in
    subst (λ (t : List ℕ). AreLines t (values_of c.in_ok-lines.lines.items)) c.in-Ok.ensures.cases.0
    (record {
      characters = subst (λ (t : List ℕ). IsUtf8 t) (sym c.in-Ok.ensures.cases.0) c.in-Ok.ensures.cases.1;
      tells = all_read c.in-Ok.text.now c.in_ok-lines.rest.now c.in_ok-lines.lines.items (omega (arith, short)) (omega (arith, size, few)) (record { front = c.in_ok-lines.ensures.front }) (omega (arith, none));
    })
