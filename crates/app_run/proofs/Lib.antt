mod FreshLemmas
mod Added
mod Ended
mod SayLemmas
mod Sure
