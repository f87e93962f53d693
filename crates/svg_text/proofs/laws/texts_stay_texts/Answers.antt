use Rattle.svg_text.proofs.Texts.{escaped_in_content, escaped_in_value}
use Rattle.svg_text.proofs.laws.texts_stay_texts.Goals as goal

pub returns-clause-in_content : goal.returns-clause-in_content
returns-clause-in_content c = escaped_in_content

pub returns-clause-in_value : goal.returns-clause-in_value
returns-clause-in_value c = escaped_in_value
