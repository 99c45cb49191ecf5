use Rattle.ticket_shop.proofs.main.Given as goal

-- guide: picks
abbrev pub ghosts-run_shop-A-Ledger : goal.ghosts-run_shop-A-Ledger
ghosts-run_shop-A-Ledger g a = record { name = a.north.name; parts = a.north.parts }

-- guide: end

abbrev pub ghosts-run_shop-B-Ledger : goal.ghosts-run_shop-B-Ledger
ghosts-run_shop-B-Ledger g a = record { name = a.south.name; parts = a.south.parts }

abbrev pub ghosts-run_shop-C-Ledger : goal.ghosts-run_shop-C-Ledger
ghosts-run_shop-C-Ledger g a = record { name = a.web.name; parts = a.web.parts }
