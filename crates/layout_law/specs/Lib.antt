pub mod Tenancies
