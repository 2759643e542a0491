use Rattle.page_parts.proofs.Markup.{text_is_no_markup}
use Rattle.page_parts.proofs.laws.text_is_no_markup.Goals as goal

pub returns : goal.returns
returns c = text_is_no_markup
