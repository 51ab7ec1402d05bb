mod TakenLemmas
mod BoundLemmas
