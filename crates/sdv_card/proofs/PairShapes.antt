-- The code of a card beside its host is a shape of the kind.
use Rattle.std.proofs.Common.{◌≡◌, ℕ, refl, sym, subst, true, Option}
use Rattle.sdv_registers.specs.declared.kind.Kind.{Kind}
use Rattle.sdv_card.specs.declared.state.State.{State}
use Rattle.sdv_card.specs.declared.state.State.TheVariants.{Idle, Ready, Ident}
use Rattle.sdv_card.specs.Takes.{matches}
use Rattle.sdv_card.specs.Card.{AddressFits, kind_fits}
use Rattle.sdv_card.specs.Shapes.{is_shape, match_fits}
use Rattle.sdv_card.specs.Modes.{mode_fits}
use Rattle.sdv_card.specs.Laws.{PairsHaveShapes}
use Rattle.sdv_card.proofs.Members.{both_true}

-- a card without a relative address matches each host
match_law : (s : State) (rca : Option ℕ) (n : ℕ) → AddressFits s rca → match_fits s (matches rca n) ≡ true
match_law Idle rca n e = rw (sym e) refl
match_law Ready rca n e = rw (sym e) refl
match_law Ident rca n e = rw (sym e) refl
match_law s rca n e = refl

pub pairs_have_shapes : (k : Kind) → PairsHaveShapes k
unfolding is_shape
pairs_have_shapes k c h pair =
    both_true _ _
    (both_true _ _
    (both_true _ _
    (both_true _ _
    (both_true _ _ pair.card.transfer
    (subst (λ v. kind_fits v c.transfer c.app c.preset ≡ true) (sym pair.kind) pair.card.kind_rules))
    (match_law c.state c.rca h.rca pair.card.address))
    pair.card.block_length)
    (subst (λ v. mode_fits v c.mode ≡ true) (sym pair.kind) pair.card.mode))
    pair.lines
