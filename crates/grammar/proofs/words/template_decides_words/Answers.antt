use Rattle.std.proofs.Common.{refl}
use Rattle.grammar.proofs.Paths.{words_are_paths}
use Rattle.grammar.proofs.words.template_decides_words.Goals as goal

-- src/lib.rt:18:1
pub returns : goal.returns
returns c = (refl, words_are_paths)
