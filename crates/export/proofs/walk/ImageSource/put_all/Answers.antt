use Rattle.std.proofs.Common.{◌∙◌, ap, arith}
use Rattle.export.specs.Export.{AskedValue}
use Rattle.export.proofs.Putting.{images_part, puts_text}
use Rattle.export.proofs.walk.ImageSource.put_all.Goals as goal

pub returns-in-Err-clause-part : goal.returns-in-Err-clause-part
returns-in-Err-clause-part g c = images_part c.args.self.now _ _ c.in-Err.ensures.part

pub returns-in-Ok-total_line-clause-all : goal.returns-in-Ok-total_line-clause-all
returns-in-Ok-total_line-clause-all g c =
    let from = ap (λ (b : AskedValue). b.from) c.self.view_is in
    let to = ap (λ (b : AskedValue). b.to) c.self.view_is in
    puts_text c.args.self.now c.from.result c.in-Ok.fresh _ _ _ _ c.in-Ok.ensures.text (omega (arith, from, to, c.count.ensures, c.from.ensures)) c.in-Ok.ensures.fresh
    (c.as_bytes.ensures.value ∙ c.in-Ok-total_line.ensures) c.put.ensures

pub returns-in-Err-total_line-clause-part : goal.returns-in-Err-total_line-clause-part
returns-in-Err-total_line-clause-part g c = images_part c.args.self.now _ _ (_, omega arith, c.in-Ok.ensures.text)
