use Rattle.std.proofs.lemmas.Str.{IsUtf8-from_ascii}
use Rattle.sdv_script.proofs.token.word_token.Goals as goal

pub returns-in-Err : goal.returns-in-Err
returns-in-Err c = absurd (c.in-Err.ensures.cases.0 (IsUtf8-from_ascii _ c.requires))
