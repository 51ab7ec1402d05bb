mod CivilLemmas
mod TextLemmas
mod MomentLemmas
