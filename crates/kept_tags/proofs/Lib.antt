mod FirstBytes
mod Seeing
mod BalancerBytes
mod NatBytes
mod TagBytes
mod CountBytes
mod Seen
