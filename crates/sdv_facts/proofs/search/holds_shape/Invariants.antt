use Rattle.sdv_facts.proofs.search.holds_shape.Given as goal

abbrev pub ghosts-is_member : goal.ghosts-is_member
ghosts-is_member a = record { name = a.blank.name; parts = a.blank.parts }
