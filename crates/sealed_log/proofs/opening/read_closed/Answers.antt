use Rattle.std.proofs.Common.{◌≡◌, sym, subst, ◌∙◌}
use Rattle.file_medium.specs.Copies.{IsCopyOf}
use Rattle.file_medium.specs.Files.{KeepsFront, SparesFront}
use Rattle.sealed_text.specs.Seals.{Unseals}
use Rattle.sealed_log.specs.Sealed.{Refuses}
use Rattle.sealed_log.proofs.Closing.{refuses-ended}
use Rattle.sealed_log.proofs.Keeping.{keeps-read, keeps-synced, loses-cut, spares-torn}
use Rattle.sealed_log.proofs.opening.read_closed.Goals as goal

pub returns-in-Err-clause-err : goal.returns-in-Err-clause-err
returns-in-Err-clause-err g c =
    let text = c.in-Ok.text.items in
    let copy = subst (λ k. IsCopyOf k text) (c.in-Ok.ensures.bytes ∙ c.in_ok-sync.ensures.bytes) c.in-Ok.ensures.copy in
    let unseals = subst (λ t. Unseals t c.in-Ok-unseal.unsealed) c.as_slice.ensures.value c.in-Ok-unseal.ensures.ok in
    let told = c.in-Err.ensures.err in
    subst (Refuses (g.F.LogFile.bytes c.args.file.now)) (sym told.0)
    (refuses-ended (g.F.LogFile.bytes c.args.file.now) text c.in-Ok-unseal.unsealed copy unseals told.1)

pub returns-in_err-cut_torn-clause-kept : goal.returns-in_err-cut_torn-clause-kept
returns-in_err-cut_torn-clause-kept g c =
    let text = c.in-Ok.text.items in
    let u = c.in-Ok-unseal.unsealed in
    let held = g.F.LogFile.bytes c.args.file.now in
    let copy = subst (λ k. IsCopyOf k text) (c.in-Ok.ensures.bytes ∙ c.in_ok-sync.ensures.bytes) c.in-Ok.ensures.copy in
    let unseals = subst (λ t. Unseals t u) c.as_slice.ensures.value c.in-Ok-unseal.ensures.ok in
    let synced : g.F.LogFile.safe c.read_whole.new.file ≡ held =
    c.in-Ok.ensures.safe ∙ c.in_ok-sync.ensures.ok ∙ c.in_ok-sync.ensures.bytes in
    loses-cut held (g.F.LogFile.safe c.args.file.now) (g.F.LogFile.safe c.read_whole.new.file) (g.F.LogFile.safe c.cut_torn.new.file)
    text u synced copy unseals c.in-Ok-refuse_ended.ensures.ok c.cut_torn.ensures.kept

pub returns-clause-kept : goal.returns-clause-kept
returns-clause-kept g c =
    let text = c.in-Ok.text.items in
    let u = c.in-Ok-unseal.unsealed in
    let held = g.F.LogFile.bytes c.args.file.now in
    let copy = subst (λ k. IsCopyOf k text) (c.in-Ok.ensures.bytes ∙ c.in_ok-sync.ensures.bytes) c.in-Ok.ensures.copy in
    let unseals = subst (λ t. Unseals t u) c.as_slice.ensures.value c.in-Ok-unseal.ensures.ok in
    let synced : g.F.LogFile.safe c.read_whole.new.file ≡ held =
    c.in-Ok.ensures.safe ∙ c.in_ok-sync.ensures.ok ∙ c.in_ok-sync.ensures.bytes in
    loses-cut held (g.F.LogFile.safe c.args.file.now) (g.F.LogFile.safe c.read_whole.new.file) (g.F.LogFile.safe c.cut_torn.new.file)
    text u synced copy unseals c.in-Ok-refuse_ended.ensures.ok c.cut_torn.ensures.kept

pub returns-in_err-cut_torn-clause-safe_still : goal.returns-in_err-cut_torn-clause-safe_still
returns-in_err-cut_torn-clause-safe_still g c =
    let text = c.in-Ok.text.items in
    let u = c.in-Ok-unseal.unsealed in
    let held = g.F.LogFile.bytes c.args.file.now in
    let safe = g.F.LogFile.safe c.args.file.now in
    let read = g.F.LogFile.safe c.read_whole.new.file in
    let copy = subst (λ k. IsCopyOf k text) (c.in-Ok.ensures.bytes ∙ c.in_ok-sync.ensures.bytes) c.in-Ok.ensures.copy in
    let unseals = subst (λ t. Unseals t u) c.as_slice.ensures.value c.in-Ok-unseal.ensures.ok in
    let synced : read ≡ held = c.in-Ok.ensures.safe ∙ c.in_ok-sync.ensures.ok ∙ c.in_ok-sync.ensures.bytes in
    let front : KeepsFront safe read = subst (KeepsFront safe) (sym c.in-Ok.ensures.safe) c.in_ok-sync.ensures.kept in
    keeps-synced safe read held (g.F.LogFile.safe c.cut_torn.new.file) front synced
    (loses-cut held read read (g.F.LogFile.safe c.cut_torn.new.file) text u synced copy unseals c.in-Ok-refuse_ended.ensures.ok c.cut_torn.ensures.kept)

pub returns-in_err-cut_torn-clause-spared : goal.returns-in_err-cut_torn-clause-spared
returns-in_err-cut_torn-clause-spared g c =
    let text = c.in-Ok.text.items in
    let u = c.in-Ok-unseal.unsealed in
    let held = g.F.LogFile.bytes c.args.file.now in
    let new = g.F.LogFile.least c.cut_torn.new.file in
    let copy = subst (λ k. IsCopyOf k text) (c.in-Ok.ensures.bytes ∙ c.in_ok-sync.ensures.bytes) c.in-Ok.ensures.copy in
    let unseals = subst (λ t. Unseals t u) c.as_slice.ensures.value c.in-Ok-unseal.ensures.ok in
    let spares = subst (λ k. SparesFront u.whole k new) (c.in-Ok.ensures.least ∙ c.in_ok-sync.ensures.least) c.cut_torn.ensures.least in
    spares-torn held text u (g.F.LogFile.least c.args.file.now) new copy unseals c.in-Ok-refuse_ended.ensures.ok spares

pub returns-clause-safe_still : goal.returns-clause-safe_still
returns-clause-safe_still g c =
    let text = c.in-Ok.text.items in
    let u = c.in-Ok-unseal.unsealed in
    let held = g.F.LogFile.bytes c.args.file.now in
    let safe = g.F.LogFile.safe c.args.file.now in
    let read = g.F.LogFile.safe c.read_whole.new.file in
    let copy = subst (λ k. IsCopyOf k text) (c.in-Ok.ensures.bytes ∙ c.in_ok-sync.ensures.bytes) c.in-Ok.ensures.copy in
    let unseals = subst (λ t. Unseals t u) c.as_slice.ensures.value c.in-Ok-unseal.ensures.ok in
    let synced : read ≡ held = c.in-Ok.ensures.safe ∙ c.in_ok-sync.ensures.ok ∙ c.in_ok-sync.ensures.bytes in
    let front : KeepsFront safe read = subst (KeepsFront safe) (sym c.in-Ok.ensures.safe) c.in_ok-sync.ensures.kept in
    keeps-synced safe read held (g.F.LogFile.safe c.cut_torn.new.file) front synced
    (loses-cut held read read (g.F.LogFile.safe c.cut_torn.new.file) text u synced copy unseals c.in-Ok-refuse_ended.ensures.ok c.cut_torn.ensures.kept)

pub returns-clause-spared : goal.returns-clause-spared
returns-clause-spared g c =
    let text = c.in-Ok.text.items in
    let u = c.in-Ok-unseal.unsealed in
    let held = g.F.LogFile.bytes c.args.file.now in
    let new = g.F.LogFile.least c.cut_torn.new.file in
    let copy = subst (λ k. IsCopyOf k text) (c.in-Ok.ensures.bytes ∙ c.in_ok-sync.ensures.bytes) c.in-Ok.ensures.copy in
    let unseals = subst (λ t. Unseals t u) c.as_slice.ensures.value c.in-Ok-unseal.ensures.ok in
    let spares = subst (λ k. SparesFront u.whole k new) (c.in-Ok.ensures.least ∙ c.in_ok-sync.ensures.least) c.cut_torn.ensures.least in
    spares-torn held text u (g.F.LogFile.least c.args.file.now) new copy unseals c.in-Ok-refuse_ended.ensures.ok spares

pub returns-in-Err-Device-clause-safe_still : goal.returns-in-Err-Device-clause-safe_still
returns-in-Err-Device-clause-safe_still g c =
    keeps-read (g.F.LogFile.safe c.args.file.now) (g.F.LogFile.safe c.sync.new.self) (g.F.LogFile.safe c.read_whole.new.file)
    c.in_ok-sync.ensures.kept c.read_whole.ensures.safe

pub returns-in-Err-NoMemory-clause-safe_still : goal.returns-in-Err-NoMemory-clause-safe_still
returns-in-Err-NoMemory-clause-safe_still g c =
    keeps-read (g.F.LogFile.safe c.args.file.now) (g.F.LogFile.safe c.sync.new.self) (g.F.LogFile.safe c.read_whole.new.file)
    c.in_ok-sync.ensures.kept c.read_whole.ensures.safe

pub returns-in-Err-Damaged-clause-safe_still : goal.returns-in-Err-Damaged-clause-safe_still
returns-in-Err-Damaged-clause-safe_still g c =
    keeps-read (g.F.LogFile.safe c.args.file.now) (g.F.LogFile.safe c.sync.new.self) (g.F.LogFile.safe c.read_whole.new.file)
    c.in_ok-sync.ensures.kept c.read_whole.ensures.safe

pub returns-in-Err-NoMemory-unseal-clause-safe_still : goal.returns-in-Err-NoMemory-unseal-clause-safe_still
returns-in-Err-NoMemory-unseal-clause-safe_still g c =
    keeps-read (g.F.LogFile.safe c.args.file.now) (g.F.LogFile.safe c.sync.new.self) (g.F.LogFile.safe c.read_whole.new.file)
    c.in_ok-sync.ensures.kept c.read_whole.ensures.safe

pub returns-in-Err-clause-safe_still : goal.returns-in-Err-clause-safe_still
returns-in-Err-clause-safe_still g c =
    keeps-read (g.F.LogFile.safe c.args.file.now) (g.F.LogFile.safe c.sync.new.self) (g.F.LogFile.safe c.read_whole.new.file)
    c.in_ok-sync.ensures.kept c.read_whole.ensures.safe
