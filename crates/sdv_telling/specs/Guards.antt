-- The guards of a case, as scripts write them.
use Rattle.std.specs.Prelude.{List, [], ◌∷◌, ◌++◌, flat_map, codes}
use Rattle.sdv_telling.specs.Statements.{Text}
use Rattle.sdv_card.specs.declared.guard.Guard.{Guard}
use Rattle.sdv_card.specs.declared.guard.Guard.TheVariants as guards
use Rattle.sdv_card.specs.declared.state.State.{State}
use Rattle.sdv_card.specs.declared.state.State.TheVariants as states

abbrev pub state_word : State → Text
state_word states.Idle = codes "state=idle"
state_word states.Ready = codes "state=ready"
state_word states.Ident = codes "state=ident"
state_word states.Stby = codes "state=stby"
state_word states.Tran = codes "state=tran"
state_word states.Data = codes "state=data"
state_word states.Rcv = codes "state=rcv"
state_word states.Prg = codes "state=prg"
state_word states.Dis = codes "state=dis"

abbrev pub guard_words : Guard → Text
guard_words guards.Timeout = codes "timeout"
guard_words guards.Answer = codes "answer"
guard_words guards.Clean = codes "clean"
guard_words guards.Ready = codes "ready"
guard_words guards.App = codes "app"
guard_words guards.Echo = codes "echo"
guard_words guards.OcrReady = codes "ocr.ready"
guard_words guards.OcrBlock = codes "ocr.block"
guard_words (guards.State state) = state_word state
guard_words guards.Ok = codes "ok"

abbrev pub further_words : Guard → Text
further_words guard = codes " & " ++ guard_words guard

abbrev pub guards_words : List Guard → Text
guards_words [] = []
guards_words (guard ∷ further) = guard_words guard ++ flat_map further_words further
