use Rattle.cavlc.proofs.WordLemmas.{word_of_code}
use Rattle.cavlc.proofs.laws.level_words_give_codes_back.Goals as goal

pub returns : goal.returns
returns c = word_of_code
