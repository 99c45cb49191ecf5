use Rattle.std.proofs.lemmas.Result.{IfOk-weaker}
use Rattle.world_steps.proofs.Stand.{all_after, calm_at}
use Rattle.world_steps.proofs.stepping.apply_at.Goals as goal

pub apply_once-requires-clause-calm : goal.apply_once-requires-clause-calm
apply_once-requires-clause-calm c = (calm_at _ _ _ _ _ c.from.ensures c.requires.known c.requires.calm).0

pub apply_once-requires-clause-room : goal.apply_once-requires-clause-room
apply_once-requires-clause-room c = (calm_at _ _ _ _ _ c.from.ensures c.requires.known c.requires.calm).1

pub returns-clause-stand : goal.returns-clause-stand
returns-clause-stand c =
    IfOk-weaker c.apply_once.result _ _
    (λ reply once schema past bound all. all_after schema past bound _ c.args.number c.args.command c.args.luck reply _ _ _ c.from.ensures
    c.requires.known all once)
    c.apply_once.ensures.once
