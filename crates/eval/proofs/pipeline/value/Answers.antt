-- `value` gives what is settled, by the kind. Assumes nothing.
use Rattle.eval.proofs.ValueLaws.{gives_components, gives_features, gives_diagnostics, gives_boolean, gives_count}
use Rattle.eval.proofs.pipeline.value.Goals as goal

pub returns-in-Components : goal.returns-in-Components
returns-in-Components c = gives_components _ _ c.in-Components.is

pub returns-in-Features : goal.returns-in-Features
returns-in-Features c = gives_features _ _ c.in-Features.is

pub returns-in-Diagnostics : goal.returns-in-Diagnostics
returns-in-Diagnostics c = gives_diagnostics _ _ c.in-Diagnostics.is

pub returns-in-Boolean : goal.returns-in-Boolean
returns-in-Boolean c = gives_boolean _ _ c.in-Boolean.is c.judge.ensures

pub returns-in-Count : goal.returns-in-Count
returns-in-Count c = gives_count _ _ c.in-Count.is
