use Rattle.sg_commands.proofs.stores.open_pages.Given as goal

abbrev pub ghosts-open_with : goal.ghosts-open_with
ghosts-open_with g a = record { name = a.blank.name; parts = a.blank.parts }
