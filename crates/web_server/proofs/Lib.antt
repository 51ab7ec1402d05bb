mod GivingWayLemmas
mod RoundLemmas
