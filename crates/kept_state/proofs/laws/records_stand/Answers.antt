use Rattle.kept_state.proofs.laws.records_stand.Goals as goal
use Rattle.kept_state.proofs.Keeping.{run_owns, run_gives, run_cuts, run_accepts, run_restarts}
use Rattle.kept_state.proofs.Epochs.{up_epoch, restart_fits, refused_fits}
use Rattle.kept_state.proofs.Adding.{keeps_length}
use Rattle.kept_state.proofs.Lasting.{run_stays_lawful}
use Rattle.kept_state.proofs.Doubt.{run_doubts, found_is_kept}
use Rattle.kept_state.proofs.Covering.{stands_is_base, fresh_is_base}
use Rattle.field_bounds.proofs.Doubt.{up_none_unsure}

pub returns-clause-owned : goal.returns-clause-owned
returns-clause-owned c = λ schema s base bs kept o rs is run keeps f k. run_owns schema s base bs kept o rs is run keeps f k

pub returns-clause-gives : goal.returns-clause-gives
returns-clause-gives c = λ schema s base bs kept o rs is run keeps to f k. run_gives schema s base bs kept o rs is run keeps to f k

pub returns-clause-cuts : goal.returns-clause-cuts
returns-clause-cuts c = λ schema s base bs kept o rs is run keeps f k. run_cuts schema s base bs kept o rs is run keeps f k

pub returns-clause-accepts : goal.returns-clause-accepts
returns-clause-accepts c = λ schema s base bs kept o rs is run keeps from f k. run_accepts schema s base bs kept o rs is run keeps from f k

pub returns-clause-restarts : goal.returns-clause-restarts
returns-clause-restarts c = λ schema s base bs kept e o rs epoch found is run keeps asked told f k.
    run_restarts schema s base bs kept e o rs is run keeps epoch found asked told f k

pub returns-clause-epoch : goal.returns-clause-epoch
returns-clause-epoch c = λ schema s base bs kept o rs is keeps up. up_epoch schema s base bs is kept o rs keeps up

pub returns-clause-fits : goal.returns-clause-fits
returns-clause-fits c = λ schema s base bs kept o rs found is keeps below there back.
    restart_fits schema s base bs is kept o rs keeps found below there back

pub returns-clause-refused : goal.returns-clause-refused
returns-clause-refused c = λ schema s base bs kept o rs is keeps full. refused_fits schema s base bs is kept o rs keeps full

pub returns-clause-length : goal.returns-clause-length
returns-clause-length c = λ schema s base bs kept o rs keeps. keeps_length schema s base bs kept o rs keeps

pub returns-clause-lawful : goal.returns-clause-lawful
returns-clause-lawful c = λ schema s base bs kept o rs is run keeps lawful. run_stays_lawful schema s base bs is lawful kept o rs run keeps

pub returns-clause-stands : goal.returns-clause-stands
returns-clause-stands c = λ schema s up rs lawful. stands_is_base schema s up rs lawful

pub returns-clause-fresh : goal.returns-clause-fresh
returns-clause-fresh c = λ schema s. fresh_is_base schema s

pub returns-clause-counts : goal.returns-clause-counts
returns-clause-counts c = λ base o up. up_none_unsure base o up

pub returns-clause-doubts : goal.returns-clause-doubts
returns-clause-doubts c = λ schema s base bs kept o rs run keeps. run_doubts schema s base bs kept o rs run keeps

pub returns-clause-found : goal.returns-clause-found
returns-clause-found c = λ kept before note rs h. found_is_kept kept before note rs h
