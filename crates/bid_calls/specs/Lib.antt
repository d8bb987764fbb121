pub mod DefaultBidCalls
