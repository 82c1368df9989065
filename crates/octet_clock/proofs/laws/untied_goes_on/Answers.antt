use Rattle.octet_clock.proofs.lemmas.DrawLaws.{fence_waits, untied_draw_waits}
use Rattle.octet_clock.proofs.lemmas.FrontLaws.{front_is_of_log, lawful_log_is_untied, untied_front_goes_on}
use Rattle.octet_clock.proofs.laws.untied_goes_on.Goals as goal

pub returns-clause-lawful : goal.returns-clause-lawful
returns-clause-lawful c = lawful_log_is_untied

pub returns-clause-front : goal.returns-clause-front
returns-clause-front c = front_is_of_log

pub returns-clause-goes_on : goal.returns-clause-goes_on
returns-clause-goes_on c = untied_front_goes_on

pub returns-clause-draw : goal.returns-clause-draw
returns-clause-draw c = untied_draw_waits

pub returns-clause-fence : goal.returns-clause-fence
returns-clause-fence c = fence_waits
