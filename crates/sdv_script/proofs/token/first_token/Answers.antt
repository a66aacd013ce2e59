use Rattle.sdv_script.proofs.TokenLaws.{ascii_run}
use Rattle.sdv_script.proofs.token.first_token.Goals as goal

pub word_token-requires : goal.word_token-requires
word_token-requires c = rw c.word_len-len.ensures (ascii_run c.args.text.now)
