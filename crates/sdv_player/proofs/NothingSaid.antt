-- What is said where a run has ended: no command, no event, and none is asked for.
use Rattle.std.proofs.Common.{◌≡◌, ℕ, refl}
use Rattle.sdv_player.specs.declared.next_step.Next.{Next}
use Rattle.sdv_player.specs.declared.next_step.Next.TheVariants as nexts
use Rattle.sdv_player.specs.Play.{HasEnded, IsAsked, moves_said, commands_said}

pub no_command_said : (end : Next) → HasEnded end → commands_said end ≡ 0
no_command_said (nexts.Event event) ended = absurd ended
no_command_said nexts.Done ended = refl
no_command_said (nexts.Fault name) ended = refl
no_command_said nexts.Number ended = refl
no_command_said nexts.Stopped ended = refl

pub no_move_said : (end : Next) → HasEnded end → moves_said end ≡ 0
no_move_said (nexts.Event event) ended = absurd ended
no_move_said nexts.Done ended = refl
no_move_said (nexts.Fault name) ended = refl
no_move_said nexts.Number ended = refl
no_move_said nexts.Stopped ended = refl

pub none_asked : (end : Next) (n : ℕ) → HasEnded end → IsAsked end n
none_asked (nexts.Event event) n ended = absurd ended
none_asked nexts.Done n ended = tt
none_asked (nexts.Fault name) n ended = tt
none_asked nexts.Number n ended = tt
none_asked nexts.Stopped n ended = tt
