-- `feature_profile` gives the profile of a feature, by its owner's. Assumes nothing.
use Rattle.profile.proofs.ProfileLaws.{feature_owned}
use Rattle.profile.proofs.feature_profile.Goals as goal

pub returns : goal.returns
returns c = feature_owned _ _ _ _ c.component_profile-owner.ensures c.owned_profile.ensures
